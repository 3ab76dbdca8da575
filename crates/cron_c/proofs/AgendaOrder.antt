-- What is taken of an agenda comes first of all that its entries have left.
use Rattle.std.proofs.Common.{◌≡◌, ℕ, ℤ, ◌≤◌, Bool, true, false, List, Option, Some, None, inl, inr, refl, sym, ap, subst, ◌∙◌, arith}
use Rattle.std.specs.Prelude.{◌<ℤ◌, ◌≤ℤ◌, ◌&&◌, int_le, int_lt, slice_get}
use Rattle.std.specs.Option.{option_map}
use Rattle.std.proofs.lemmas.Bool.{cases_lt}
use Rattle.std.proofs.lemmas.Int.{ints}
use Rattle.std.proofs.lemmas.Option.{slice_get-map}
use Rattle.jiff_core.proofs.SignedLemmas.{signed_arith}
use Rattle.cron_time.specs.Seconds.{Seconds, matching_seconds}
use Rattle.cron_instants.specs.Order.{comes_before}
use Rattle.cron_instants.proofs.OrderLemmas.{before-not_less, before-true}
use Rattle.cron_dues.specs.Clock.Due.{Clock, Due, due, due_instant, instant}
use Rattle.cron_dues.specs.Clock.FirstDues.{IsDue}
use Rattle.cron_dues.proofs.DueLemmas.{due_ascends, fire_due}
use Rattle.cron_c.specs.Agendas.{is_due, is_none, never, own_seconds, when}
use Rattle.cron_c.specs.AgendaLaws.{HasDueFire, HasLeft, IsDueFire, TakenIsTheFirst, nominal}
use Rattle.cron_c.specs.declared.entry.CronEntry.{CronEntry}
use Rattle.cron_c.specs.declared.era.CronEra.{CronEra}
use Rattle.cron_c.specs.declared.item.CronItem.{CronItem}
use Rattle.cron_c.specs.declared.schedule.CronSchedule.{CronSchedule}
use Rattle.cron_c.proofs.AgendaLemmas.{entry-at, told-at}
use Rattle.cron_c.proofs.Dues.{nominal_is}

-- ---- due fires by one clock

pub mapped : (clock : Clock) (d : Due) (o : Option ℕ) → option_map (due clock) o ≡ Some d → d ≡ due clock d.second
mapped clock d None h = cc
mapped clock d (Some c) h =
    let is : due clock c ≡ d = cc in subst (λ (x : Due). x ≡ due clock x.second) is refl

pub own-due : (s : Seconds) (clock : Clock) (d : Due) → IsDue s clock d → instant d ≡ due_instant clock d.second
own-due s clock d (i, here) =
    ap instant (mapped clock d (slice_get (matching_seconds s) i) (sym (slice_get-map (due clock) (matching_seconds s) i) ∙ here))
    ∙ fire_due clock d.second

due-later : (s : Seconds) (clock : Clock) (a b : CronItem) → IsDueFire s clock a → IsDueFire s clock b → nominal a <ℤ nominal b → a.instant ≤ℤ b.instant
due-later s clock a b (d, is, item) (e, other, struct) less =
    let first = nominal_is d a item in
    let second = nominal_is e b struct in
    let ascends = due_ascends clock d.second e.second (omega (arith, signed_arith)) in
    let at = own-due s clock d is in
    let there = own-due s clock e other in
    let told = item.instant_is in
    let told_there = struct.instant_is in
    omega (arith, signed_arith)

-- ---- what an entry has left

left-later : (schedules : List CronSchedule) (eras : List CronEra) (clock : Clock) (e : CronEntry) (x : CronItem) → HasDueFire schedules eras clock e
    → HasLeft schedules eras clock e x → e.next.instant ≤ℤ x.instant
left-later schedules eras clock e x own (inl is) = let same = ap (λ (y : CronItem). y.instant) is in omega (arith, signed_arith)
left-later schedules eras clock e x own (inr (inl (rule, fire, inl less))) = omega (arith, signed_arith)
left-later schedules eras clock e x own (inr (inl (rule, fire, inr same))) = let equal = same.0 in omega (arith, signed_arith)
left-later schedules eras clock e x own (inr (inr (rule, fire, less))) = due-later (own_seconds schedules e) clock e.next x (own rule).1 fire less

when-live : (e : CronEntry) → is_none e ≡ false → when e ≡ e.next.instant
when-live e live = rw live refl

by-none : (e : CronEntry) (now : ℤ) (t : Bool) → is_none e ≡ t → is_due now e ≡ true → when e ≡ e.next.instant
by-none e now false is due = when-live e is
by-none e now true is due =
    let gone : when e ≡ never = rw is refl in
    let late : (int_le never now && int_lt never never) ≡ true = subst (λ (n : ℤ). (int_le n now && int_lt n never) ≡ true) gone due in
    absurd (grind (arith, ints))

not-before : (a b : ℤ) (i p : ℕ) → b ≤ℤ a → p ≤ i → comes_before a i b p ≡ false
not-before a b i p h g = grind (arith, ints)

no-later : (a b : ℤ) (p i : ℕ) → comes_before a p b i ≡ true → a ≤ℤ b
no-later a b p i h =
    elim (before-true a p b i h) [ inl less ↦ omega (arith, signed_arith) | inr same ↦ let equal = same.0 in omega (arith, signed_arith) ]

pub taken_is_the_first : TakenIsTheFirst
taken_is_the_first schedules eras now old new place item clocks agenda own taken i e x here live left =
    let first = taken.comes.first agenda in
    let (f, at, told) = entry-at old place first.first.instant first.first.here in
    let same : taken.comes.entry ≡ f = cc (taken.comes.here) in
    let same_due : taken.comes.entry ≡ first.entry = cc (taken.comes.here, first.here) in
    let due : is_due now taken.comes.entry ≡ true = subst (λ (y : CronEntry). is_due now y ≡ true) (sym same_due) first.due in
    let when_is = by-none taken.comes.entry now (is_none taken.comes.entry) refl due in
    let n_is : when taken.comes.entry ≡ first.first.instant = ap when same ∙ told in
    let item_is : item.instant ≡ taken.comes.entry.next.instant = ap (λ (y : CronItem). y.instant) taken.is in
    let late = left-later schedules eras (clocks i) e x (own i e here) left in
    let e_when = when-live e live in
    let there = told-at old i e here in
    elim (cases_lt i place) [
      | inl less ↦
          let comes = first.first.others i (when e) there (λ q. omega (arith, q)) in
          elim (before-true first.first.instant place (when e) i comes) [
            | inl sooner ↦ before-not_less x.instant i item.instant place (omega (arith, signed_arith))
            | inr shared ↦ let low = shared.1 in absurd (omega arith)
          ]
      | inr ge ↦ elim (cases_lt place i) [
        | inl more ↦
            let comes = no-later first.first.instant (when e) place i (first.first.others i (when e) there (λ q. omega (arith, q))) in
            not-before x.instant item.instant i place (omega (arith, signed_arith)) ge
        | inr le ↦
            let equal : i ≡ place = omega arith in
            let e_is : slice_get old place ≡ Some e = subst (λ (k : ℕ). slice_get old k ≡ Some e) equal here in
            let entry_is : e ≡ taken.comes.entry = cc (e_is, taken.comes.here) in
            let next_is : e.next.instant ≡ taken.comes.entry.next.instant = ap (λ (y : CronEntry). y.next.instant) entry_is in
            not-before x.instant item.instant i place (omega (arith, signed_arith)) ge
      ]
    ]
