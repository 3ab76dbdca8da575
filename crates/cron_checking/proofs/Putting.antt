-- Texts that are put one after another.
use Rattle.std.proofs.Common.{ℕ, Option, Result, List, [], ◌++◌, sym, subst, append_assoc, append-nil}
use Rattle.std.specs.declared.io.Error.{Error}
use Rattle.cron_writer.specs.Watching.{IsGathered}
use Rattle.cron_writer.specs.declared.gathered.Gathered.{Gathered}
use Rattle.cron_writer.specs.declared.watched.Watched.{Watched}
use Rattle.cron_writer.proofs.Calling.{no_write, writes_on}
use Rattle.cron_checking.specs.Puts.{Puts}

pub nothing_put : {W : Type 0} (contents : W → Option (List ℕ)) (writes : W → List ℕ → Result ℕ Error → W → Type 0) (gathered : Gathered) (out : Watched W)
    → Puts contents writes gathered out gathered out []
nothing_put contents writes gathered out =
    record {
      gathers = λ origin before was. subst (IsGathered _ _ _ _) (sym (append-nil before)) was;
      calls = no_write writes _ _;
    }

pub put_on : {W : Type 0} (contents : W → Option (List ℕ)) (writes : W → List ℕ → Result ℕ Error → W → Type 0)
    (old mid new : Gathered) (was now is : Watched W) (text more : List ℕ) → Puts contents writes old was mid now text
    → Puts contents writes mid now new is more → Puts contents writes old was new is (text ++ more)
put_on contents writes old mid new was now is text more p q =
    record {
      gathers = λ origin before h. subst (IsGathered _ _ _ _) (append_assoc before text more) (q.gathers origin (before ++ text) (p.gathers origin before h));
      calls = writes_on writes _ _ _ _ _ _ p.calls q.calls;
    }
