use Rattle.std.proofs.Common.{◌≡◌, ℕ, ◌+◌, ◌&&◌, Bool, nat_lt, ap, ◌∙◌, arith}
use Rattle.cron_units.specs.Sets.{Sets}
use Rattle.cron_units.specs.Units.{contains}
use Rattle.cron_time.proofs.search.month_days.months_of_year.Goals as goal

pub returns : goal.returns
returns c = λ k.
    let s : Sets = c.args.fields.now in
    c.below.ensures.bits k
    ∙ ap (λ (b : Bool). nat_lt k 12 && b)
    (c.bits.ensures.bits k ∙ ap (λ (t : Sets). contains t.months (1 + k)) c.fields.view_is ∙ ap (contains s.months) (next_is k))
  where
    next_is : (k : ℕ) → 1 + k ≡ k + 1
    next_is k = omega arith
