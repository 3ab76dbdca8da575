use Rattle.std.proofs.Common.{List, ℕ, sym, subst}
use Rattle.cron_text.specs.Meaning.{Means}
use Rattle.cron_text.proofs.MeaningLemmas.{means_once}
use Rattle.cron.proofs.laws.equal_sets.Goals as goal

pub returns : goal.returns
returns c =
    means_once c.args.one.now.source c.args.one.now.sets c.args.other.now.sets c.source-one.ensures.means
    (subst (λ (t : List ℕ). Means t c.args.other.now.sets) (sym c.requires) c.source-other.ensures.means)
