use Rattle.std.proofs.Common.{ℕ, List, ap, ◌∙◌, subst, rules, FitsSigned, w64, to_z-of_z}
use Rattle.jiff_core.specs.declared.Offset.{Offset}
use Rattle.cron_answers.specs.Lateness.{IsSinceText, late_text}
use Rattle.cron_answers.proofs.missed.sentence_of.Goals as goal

pub returns-in-Some : goal.returns-in-Some
returns-in-Some g c =
    let form = c.args.form in
    let missed = c.in-Some.missed in
    let since = c.since_text-since.result.items in
    let fits : FitsSigned w64 c.in-Some.missed.since = search rules in
    let wide : FitsSigned w64 c.second-second.result = search rules in
    let told = rw (to_z-of_z fits) at c.since_text-since.ensures in
    let said = rw (to_z-of_z fits, to_z-of_z wide) at c.late_text.ensures in
    rw c.in-Some.is (
      since,
      subst (λ (o : Offset). IsSinceText c.in-Some.missed.since o since) c.offset.ensures told,
      said
          ∙ (ap (λ (s : List ℕ). late_text form s missed.since c.as_slice-in-Some.result.now c.second-second.result) c.as_slice.ensures.value
          ∙ (ap (λ (t : List ℕ). late_text form since missed.since t c.second-second.result) (c.as_slice-in-Some.ensures.value ∙ c.text-text.ensures)
          ∙ ap (late_text form since missed.since (g.F.Told.text missed.fire)) c.second-second.ensures.value)),
    )
