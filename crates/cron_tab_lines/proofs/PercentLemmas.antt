-- Where a command ends.
use Rattle.std.proofs.Common.{◌≡◌, ℕ, ◌≤◌, Bool, true, false, List, [], ◌∷◌, length, refl, arith}
use Rattle.std.specs.Prelude.{not, ◌==◌, ◌&&◌}
use Rattle.cron_tab_lines.specs.Entries.{before_percent}

pub before-le-length : (guarded : Bool) (task : List ℕ) → before_percent guarded task ≤ length task
before-le-length guarded [] = omega arith
before-le-length guarded (c ∷ cs) = by_test (c == 37 && not guarded) refl (before-le-length (c == 92 && not guarded) cs)
  where
    by_test : (b : Bool) → (c == 37 && not guarded) ≡ b → before_percent (c == 92 && not guarded) cs ≤ length cs → before_percent guarded (c ∷ cs) ≤ length (c ∷ cs)
    by_test true is rest = rw is (omega arith)
    by_test false is rest = rw is (omega arith)
