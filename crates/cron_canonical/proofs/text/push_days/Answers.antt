use Rattle.std.proofs.Common.{◌≡◌, ◌++◌, ◌∷◌, [], List, ℕ, ap, append_assoc, rules, ◌∙◌}
use Rattle.cron_canonical.proofs.DayLemmas.{days_on}
use Rattle.cron_canonical.proofs.text.push_days.Goals as goal

pub returns-clause-items : goal.returns-clause-items
returns-clause-items c =
    let numbers = c.push_numbers.new.text.items in
    let mark = c.last_day_text.result.now in
    let marked : c.try_extend_from_slice.new.self.items ≡ numbers ++ mark = search rules in
    days_on _ _ _ _ mark _ c.push_numbers.ensures.items c.last_day_text.ensures.text
    (c.push.ensures.items ∙ (ap (λ (t : List ℕ). t ++ 32 ∷ []) marked ∙ append_assoc numbers mark (32 ∷ [])))
