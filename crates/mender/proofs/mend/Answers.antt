-- 14, or what is answered of so many records.
use Rattle.std.specs.Prelude.{Err}
use Rattle.std.proofs.Common.{◌≡◌, ◌∙◌, take, length, refl, sym, ap, arith}
use Rattle.std.proofs.lemmas.List.{length-map}
use Rattle.piece.specs.Piece.{Record}
use Rattle.mending.specs.Mender.{read_in, places_of}
use Rattle.mending.proofs.Answers.{mend_long}
use Rattle.mender.proofs.Placed.{front_laid}
use Rattle.mender.proofs.mend.Goals as goal

pub returns-then-stream-gt65535 : goal.returns-then-stream-gt65535
returns-then-stream-gt65535 c =
    let a = c.args in
    rw (mend_long a.stream.now (length a.out.now) c.if-stream-gt65535.true) (record { result_value = ap Err c.bare.ensures; out_after = refl })

pub mend_in-requires : goal.mend_in-requires
mend_in-requires c =
    let es = read_in c.args.stream.now in
    let count = c.survey-seen.ensures.sees.count in
    let n = c.if-seen-gt256.false in
    let laid : take c.survey-seen.result.count c.survey-seen.new.places ≡ places_of es =
    rw c.survey-seen.ensures.places_after (front_laid _ (places_of es) c.survey-seen.result.count (count ∙ sym (length-map es (λ (e : Record). e.place))) n) in
    record { stream_len_bound = (c.if-stream-gt65535.false, c.survey-seen.ensures.sees); count_in_bounds = (omega (arith, n, c.survey-seen.auto), n, n); order_value = laid }
