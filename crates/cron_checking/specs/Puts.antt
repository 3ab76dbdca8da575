-- Texts that are gathered, and passed to a writer in blocks.
use Rattle.std.specs.Prelude.{ℕ, List, ◌++◌, Option, Result}
use Rattle.std.specs.declared.io.Error.{Error}
use Rattle.cron_writer.specs.Calls.{AreWrites}
use Rattle.cron_writer.specs.Watching.{has_failed, kept_in, writer_of, IsGathered}
use Rattle.cron_writer.specs.declared.gathered.Gathered.{Gathered}
use Rattle.cron_writer.specs.declared.watched.Watched.{Watched}

-- The text was gathered after what was gathered before. The writer got only writes, and none once a
-- call had failed.
pub record Puts {W : Type 0} (contents : W → Option (List ℕ)) (writes : W → List ℕ → Result ℕ Error → W → Type 0)
    (old : Gathered) (was : Watched W) (new : Gathered) (is : Watched W) (text : List ℕ) : Type 0 where
  pub gathers : (origin : Option (List ℕ)) (before : List ℕ)
      → IsGathered origin (contents (writer_of was)) (has_failed was) (kept_in old) before
      → IsGathered origin (contents (writer_of is)) (has_failed is) (kept_in new) (before ++ text)
  pub calls : AreWrites writes (writer_of was) (has_failed was) (writer_of is) (has_failed is)
