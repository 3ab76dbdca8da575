-- Days that are changed, one after another.
use Rattle.std.proofs.Common.{◌≡◌, ◌≤◌, ◌+◌, ◌*◌, ℕ, Bool, false, List, [], ◌∷◌, ◌++◌, inl, inr, sym, subst, ◌∙◌, arith, append_assoc}
use Rattle.std.specs.Prelude.{IsTrue, ◌↔◌, max}
use Rattle.std.proofs.lemmas.Bool.{cases_lt, true≢false}
use Rattle.std.proofs.lemmas.List.{append-nil}
use Rattle.jiff_tz.specs.declared.timezone.TimeZone.{TimeZone}
use Rattle.cron_units.specs.Sets.{Sets}
use Rattle.cron_tab_agenda.specs.ChangedDays.{AreChangedDays, HasSecond, IsChangedDay, IsDoubledAt, IsSkippedAt, IsUnchanged}
use Rattle.cron_tab_agenda.specs.Inner.Changes.{AreChanges, AreUnchanged}
use Rattle.cron_tab_agenda.specs.declared.changed_days.ChangedDay.{ChangedDay}
use Rattle.cron_tab_agenda.specs.declared.changed_days.Changes.{Changes}

untrue : (b : Bool) {P : Type 0} → IsTrue b ↔ P → b ≡ false → P → ⊥
untrue b is none some = true≢false (sym (is.1 some) ∙ none)

module _ (ss : List Sets) (z : TimeZone) where
  -- a day without changes
  pub no-change : (day : ℕ) (changes : Changes) → AreChanges ss z (day * 86_400) changes → changes.end ≡ (day + 1) * 86_400
      → changes.skipped ≡ false → changes.doubled ≡ false → IsUnchanged ss z day
  no-change day changes are end one other = (
    λ some. untrue changes.skipped are.skipped one (subst (HasSecond (IsSkippedAt ss z) (day * 86_400)) (sym end) some),
    λ some. untrue changes.doubled are.doubled other (subst (HasSecond (IsDoubledAt ss z) (day * 86_400)) (sym end) some),
  )

  pub unchanged-on : (first day up next : ℕ) → next ≡ max up (day + 1) → AreUnchanged ss z first day → IsUnchanged ss z day → AreUnchanged ss z day up
      → AreUnchanged ss z first next
  unchanged-on first day up next is before here more d low high = elim (cases_lt d day) [
    | inl less ↦ before d low less
    | inr from ↦ elim (cases_lt d up) [
      | inl within ↦ more d from within
      | inr past ↦ let same : day ≡ d = omega arith in subst (IsUnchanged ss z) same here
    ]
  ]

  -- what stands behind some days makes what they make together
  pub one-more : (first at : ℕ) (done : List ChangedDay) (d : ℕ) (day : ChangedDay)
      → ((end : ℕ) (rest : List ChangedDay) → at ≤ end → AreChangedDays ss z at end rest → AreChangedDays ss z first end (done ++ rest))
      → at ≤ d → AreUnchanged ss z at d → IsChangedDay ss z d day
      → (end : ℕ) (rest : List ChangedDay) → d + 1 ≤ end → AreChangedDays ss z (d + 1) end rest → AreChangedDays ss z first end ((done ++ day ∷ []) ++ rest)
  one-more first at done d day were low before is end rest high are =
      subst (AreChangedDays ss z first end) (sym (append_assoc done (day ∷ []) rest))
      (were end (day ∷ rest) (omega arith) (d, low, omega arith, before, is, are))

  pub no-more : (first at end : ℕ) (done : List ChangedDay)
      → ((end : ℕ) (rest : List ChangedDay) → at ≤ end → AreChangedDays ss z at end rest → AreChangedDays ss z first end (done ++ rest))
      → at ≤ end → AreUnchanged ss z at end → AreChangedDays ss z first end done
  no-more first at end done were low none = subst (AreChangedDays ss z first end) (append-nil done) (were end [] low none)
