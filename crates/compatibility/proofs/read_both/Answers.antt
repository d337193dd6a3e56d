-- `compatibility::read_both` meets its contract: two readings, related by the theorems of demand 3. Assumes nothing.
use Rattle.compatibility.proofs.Compatibility.{newer_accepts, older_accepts}
use Rattle.table_extension.proofs.Extending.{extends_holds}
use Rattle.compatibility.proofs.read_both.Goals as goal

pub returns : goal.returns
returns c =
    let a = c.args in
    record {
      reads = record { answers = c.read-first.ensures.result_value; fills = c.read-first.ensures.index_after };
      reads_2 = record { answers = c.read-second.ensures.result_value; fills = c.read-second.ensures.index_after };
      related = λ extends _.
          let h = (extends_holds a.older.now a.newer.now).0 extends in
          record {
            newer_accepts = newer_accepts a.older.now a.newer.now h.0 h.1 h.2 _ _ _;
            older_accepts = older_accepts a.older.now a.newer.now h.0 h.1 h.2 _ _ _;
          };
    }
