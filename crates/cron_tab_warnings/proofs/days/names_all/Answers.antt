use Rattle.std.proofs.Common.{◌<◌, ◌+◌, ℕ, ap, sym, ◌∙◌, arith}
use Rattle.cron_tab_warnings.specs.Written.{names, size}
use Rattle.cron_tab_warnings.proofs.WordLemmas.{lacks-one}
use Rattle.cron_tab_warnings.proofs.days.names_all.Goals as goal

pub returns-then-not-names : goal.returns-then-not-names
returns-then-not-names c =
    let some : c.loop-place.place < size c.args.field = omega (arith, c.loop-place-test.true, c.size-place-end.ensures) in
    sym (lacks-one c.args.field c.args.word.now c.loop-place.place (size c.args.field) some
    (ap (λ (k : ℕ). names c.args.field c.args.word.now (k + c.loop-place.place)) (sym c.least.ensures) ∙ (sym c.names.ensures ∙ c.if-not-names.true)))
