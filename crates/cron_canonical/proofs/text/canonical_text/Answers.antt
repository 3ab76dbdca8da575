use Rattle.std.proofs.Common.{List, ℕ, refl, subst, sym}
use Rattle.std.proofs.lemmas.Bool.{false≢true}
use Rattle.cron_text.specs.Meaning.{Means}
use Rattle.cron_text.proofs.FilledLemmas.{means_sets}
use Rattle.cron_canonical.proofs.ShortMeaning.{short_forms_mean}
use Rattle.cron_canonical.proofs.text.canonical_text.Goals as goal

pub returns-then-not-are_filled : goal.returns-then-not-are_filled
returns-then-not-are_filled c = λ text m. false≢true (c.if-not-are_filled.ensures.1 (means_sets text c.args.fields.now m))

pub returns : goal.returns
returns c = (
  c.text_of.ensures,
  subst (λ (text : List ℕ). Means text c.args.fields.now) (sym c.text_of.ensures)
      (short_forms_mean c.args.fields.now (c.if-not-are_filled.ensures.0 refl)),
)
