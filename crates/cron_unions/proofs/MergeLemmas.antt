-- Where schedules that are merged stand.
use Rattle.std.proofs.Common.{◌≡◌, ℕ, pos, List, length, take, refl, sym, ap, ◌∙◌, subst}
use Rattle.cron_units.specs.Sets.{Sets}
use Rattle.cron_unions.specs.Inner.Heads.{AreHeads}
use Rattle.cron_unions.specs.Inner.Merges.{Stands, schedules_of}
use Rattle.cron_unions.specs.declared.heads.Head.{Head}
use Rattle.cron_unions.specs.declared.merge.Merge.{Merge}

-- as many heads that have come to another place stand there
pub stands_at : (m : Merge) (next : ℕ) (hs : List Head) → Stands m → length hs ≡ length m.heads.items → AreHeads (schedules_of m) (pos next) hs
    → Stands (record { from = next; kept = m.kept; heads = record { items = hs } })
stands_at m next hs stands long heads =
    let same : take (length hs) m.kept ≡ schedules_of m = ap (λ k. take k m.kept) long in
    record {
      same = refl;
      all = long ∙ stands.all ∙ ap (λ (l : List Sets). length l) (sym same);
      here = refl;
      heads = subst (λ (l : List Sets). AreHeads l (pos next) hs) (sym same) heads;
    }
