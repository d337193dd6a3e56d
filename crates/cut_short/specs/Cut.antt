-- Where a stream is cut short, and what is missing there: document 02, (v). Assumes nothing.
use Rattle.std.specs.Prelude.{List, ◌++◌, ◌≡◌, ℕ, ◌-◌, ◌<◌, length, drop, Err}
use Rattle.answer.specs.Missing.{Lacks}
use Rattle.answer.specs.declared.Refusal.{Refusal}
use Rattle.bigsize.specs.BigSize.{peeking}
use Rattle.message.specs.Message.{built_in}
use Rattle.stream.specs.Order.{Entered}
use Rattle.stream.specs.Stream.{rows_in, judging_from}

-- Of what is cut short in the record at the front of some bytes a byte is there: there are more bytes than its type takes. Only a length may not be begun.
abbrev pub Begun : List ℕ → Type 0
Begun bs = (peeking bs).width < length bs

-- The stream at hand, which is cut short: the stream itself, or one that the table enters from it. By itself, where it lies and at its level, it is refused
-- likewise; and what is missing is missing at its end, whatever stands behind it.
pub record CutIn (table : List ℕ) (namespace : ℕ) (s : List ℕ) (r : Refusal) : Type 0 where
  pub own : ℕ
  pub levels : ℕ
  pub place : ℕ
  pub bytes : List ℕ
  pub entered : Entered table own bytes namespace s
  pub alone : rows_in table own levels place 0 bytes ≡ Err r
  pub lacks : Lacks r (Begun (drop (r.place - place) bytes)) (λ more. rows_in table own levels place 0 (bytes ++ more))

-- A message is cut short in its extension, which is the stream of a namespace that begins somewhere in it, and is refused so.
pub record CutExtension (m : List ℕ) (r : Refusal) : Type 0 where
  pub begin : ℕ
  pub namespace : ℕ
  pub judged : judging_from begin built_in namespace m ≡ Err r
  pub cut : CutIn built_in namespace (drop begin m) r
