-- What a reader answers for a text whose sets are known.
use Rattle.std.proofs.Common.{◌≡◌, ℕ, List, Result, Ok, Err, sym, subst}
use Rattle.std.specs.Result.{IfOk, IfErr}
use Rattle.cron_units.specs.Sets.{Sets}
use Rattle.cron_units.specs.Texts.{TellsKind, Tells, IsMemoryKind, IsMemory}
use Rattle.cron_units.specs.declared.error.Error.{Error}
use Rattle.cron_units.specs.declared.error.ErrorKind.{ErrorKind}
use Rattle.cron_units.specs.declared.error.ErrorKind.TheVariants.{Expression, OutOfMemory}
use Rattle.cron_text.specs.Fault.{IsRefusal}
use Rattle.cron_text.specs.Meaning.{Means}
use Rattle.cron_text.proofs.MeaningLemmas.{means_once}
use Rattle.cron.specs.Plan.{Plan}

-- its schedule has these sets
pub read_sets : (text : List ℕ) (sets : Sets) (r : Result Plan Error) → Means text sets
    → IfOk r (λ s. Means text s.sets) → IfOk r (λ s. s.sets ≡ sets)
read_sets text sets (Ok s) m h = means_once text s.sets sets h m
read_sets text sets (Err e) m h = tt

-- it means what its source means
pub means_source : (text : List ℕ) (r : Result Plan Error) → IfOk r (λ s. Means text s.sets) → IfOk r (λ s. s.source ≡ text)
    → IfOk r (λ s. Means s.source s.sets)
means_source text (Ok s) m e = subst (λ (t : List ℕ). Means t s.sets) (sym e) m
means_source text (Err x) m e = tt

memory_kind : (text : List ℕ) (sets : Sets) (k : ErrorKind) → Means text sets → TellsKind (IsRefusal text) k → IsMemoryKind k
memory_kind text sets (Expression t) m h = h.nothing sets m
memory_kind text sets OutOfMemory m h = tt

-- and out of memory is its only error
pub read_refused : (text : List ℕ) (sets : Sets) (r : Result Plan Error) → Means text sets
    → IfErr r (Tells (IsRefusal text)) → IfErr r IsMemory
read_refused text sets (Ok s) m h = tt
read_refused text sets (Err e) m h = memory_kind text sets e.kind m h
