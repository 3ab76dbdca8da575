use Rattle.std.proofs.Common.{◌≡◌, ◌++◌, ◌∙◌, [], List, ℕ, sym, ap, subst}
use Rattle.cron_units.specs.Sets.{Sets}
use Rattle.cron_text.specs.Meaning.{Means}
use Rattle.cron_text.proofs.FilledLemmas.{means_sets}
use Rattle.cron_canonical.specs.Short.{sets_text}
use Rattle.cron_canonical.proofs.ShortMeaning.{short_forms_mean}
use Rattle.cron_checking.proofs.short.canonical_text.Goals as goal

-- the short form of what a source means, pushed to nothing
means_again : (source before text : List ℕ) (s t : Sets) → Means source s → t ≡ s → before ≡ [] → text ≡ before ++ sets_text t → Means text s
means_again source before text s t m e empty h =
    let alone : text ≡ sets_text s = h ∙ (ap (λ (x : List ℕ). x ++ sets_text t) empty ∙ ap sets_text e) in
    subst (λ (x : List ℕ). Means x s) (sym alone) (short_forms_mean s (means_sets source s m))

pub returns-clause-means : goal.returns-clause-means
returns-clause-means c =
    means_again _ _ _ _ _ c.source-source.ensures.means c.fields.ensures c.new-text.ensures.bytes c.in_ok-push_sets.ensures
