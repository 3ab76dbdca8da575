use Rattle.std.proofs.Common.{◌≡◌, ◌∙◌, ℕ, List, ap, length, refl, subst}
use Rattle.cron_units.specs.Sets.{Sets}
use Rattle.cron_text.specs.Meaning.{Means}
use Rattle.cron_canonical.specs.Short.{sets_text}
use Rattle.cron_c.specs.Buffers.{laid_over}
use Rattle.cron_c.specs.Structs.{sets_of}
use Rattle.cron_c.proofs.canonical_call.canonical.Goals as goal

pub returns : goal.returns
returns c =
    let fields = c.fields_of.result in
    let told : c.as_slice-bytes.result.now ≡ sets_text (sets_of c.args.schedule.now) =
    c.as_slice-bytes.ensures.value ∙ (c.in-Some.ensures.0 ∙ ap sets_text c.fields_of.ensures) in
    let means = subst (λ (text : List ℕ). Means text fields) c.in-Some.ensures.0 c.in-Some.ensures.1 in (
      subst (λ (s : Sets). Means (sets_text s) s) c.fields_of.ensures means,
      c.put.ensures ∙ ap (λ (l : List ℕ). laid_over 0 l c.args.text.now) told,
      ap length told,
      c.as_slice-bytes.ensures.fits,
    )

pub returns-in_default : goal.returns-in_default
returns-in_default c = (subst (λ (s : Sets). (text : List ℕ) → Means text s → ⊥) c.fields_of.ensures c.in_default.ensures, refl, refl)
