-- Records that are right, or no more of them than room.
use Rattle.std.proofs.Common.{◌≡◌, ◌∙◌, ◌≤◌, take, sym, arith}
use Rattle.std.proofs.lemmas.List.{length-map}
use Rattle.piece.specs.Piece.{Record}
use Rattle.mending.specs.Mender.{read_in, places_of}
use Rattle.mender.proofs.Placed.{front_laid, read_half}
use Rattle.mender.proofs.mend_long.Goals as goal

pub mend_in-requires : goal.mend_in-requires
mend_in-requires c =
    let es = read_in c.args.stream.now in
    let count = c.survey-seen.ensures.sees.count in
    let n : c.survey-seen.result.count ≤ 32767 = omega (arith, read_half c.args.stream.now, c.requires, count) in
    let laid : take c.survey-seen.result.count c.survey-seen.new.places ≡ places_of es =
    rw c.survey-seen.ensures.places_after (front_laid _ (places_of es) c.survey-seen.result.count (count ∙ sym (length-map es (λ (e : Record). e.place))) n) in
    record { stream_len_bound = (c.requires, c.survey-seen.ensures.sees); count_in_bounds = (omega (arith, n, c.survey-seen.auto), n, n); order_value = laid }
