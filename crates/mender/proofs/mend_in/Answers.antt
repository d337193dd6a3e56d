-- 80, 12, or what is written and told.
use Rattle.std.specs.Prelude.{Ok}
use Rattle.std.proofs.Common.{◌≤◌, length, refl, sym, ap, ◌∙◌, arith}
use Rattle.mending.specs.Mender.{read_in, ordered, spelled}
use Rattle.mending.proofs.Answers.{mend_short, mend_done}
use Rattle.mender.proofs.Answers.{mend_fault, none_found, place_found, written_is, kept_whole, sorted_told}
use Rattle.mender.proofs.mend_in.Goals as goal

pub overflow_cast-place : goal.overflow_cast-place
overflow_cast-place c =
    omega (arith, place_found c.args.stream.now c.requires.stream_len_bound.0 _ (sym c.in-Some.is ∙ c.arrange-sifted.ensures.fault))

pub returns-in-Some : goal.returns-in-Some
returns-in-Some c =
    let e = mend_fault c.args.stream.now c.requires.stream_len_bound.0 (length c.args.out.now) _ (sym c.in-Some.is ∙ c.arrange-sifted.ensures.fault) in
    rw (e, c.at.ensures, c.key-kind.ensures) (record { result_value = refl; out_after = refl })

pub returns-then-out-sifted : goal.returns-then-out-sifted
returns-then-out-sifted c =
    let short = c.requires.stream_len_bound.0 in
    let none = none_found c.args.stream.now short (sym c.in_default.is ∙ c.arrange-sifted.ensures.fault) in
    let e = mend_short c.args.stream.now short none (length c.args.out.now) (omega (arith, c.if-out-sifted.true, c.arrange-sifted.ensures.size)) in
    rw (e, c.bare.ensures) (record { result_value = refl; out_after = refl })

pub write-requires : goal.write-requires
write-requires c =
    record {
      are_whole = kept_whole c.args.stream.now _ _ _ c.requires.stream_len_bound.1 c.arrange-sifted.ensures;
      order_in_bounds = rw c.arrange-sifted.ensures.records (omega (arith, c.if-out-sifted.false, c.arrange-sifted.ensures.size));
    }

pub returns : goal.returns
returns c =
    let short = c.requires.stream_len_bound.0 in
    let none = none_found c.args.stream.now short (sym c.in_default.is ∙ c.arrange-sifted.ensures.fault) in
    let fits : length (spelled (ordered (read_in c.args.stream.now))) ≤ length c.args.out.now = omega (arith, c.if-out-sifted.false, c.arrange-sifted.ensures.size) in
    rw (mend_done c.args.stream.now short none (length c.args.out.now) fits)
    (record {
      result_value = ap Ok (sorted_told c.args.stream.now _ _ _ c.requires.stream_len_bound.1 c.arrange-sifted.ensures _ c.count_moved-moved.ensures);
      out_after = written_is c.args.stream.now c.args.out.now _ (rw c.arrange-sifted.ensures.records at c.write.ensures) fits;
    })
