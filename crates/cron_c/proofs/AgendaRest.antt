-- What an entry of an agenda has left once its fire was taken.
use Rattle.std.proofs.Common.{◌≡◌, ℕ, ℤ, ◌<◌, pos, true, false, List, [], ◌∷◌, ◌⊎◌, inl, inr, ◌↔◌, refl, sym, ap, subst, ◌∙◌, arith}
use mathlib.Core.Path.{fun_ext}
use Rattle.std.specs.Prelude.{◌<ℤ◌, slice_get}
use Rattle.std.proofs.lemmas.Bool.{cases_lt}
use Rattle.std.proofs.lemmas.Int.{ints}
use Rattle.std.proofs.lemmas.Option.{slice_get-map}
use Rattle.jiff_core.proofs.SignedLemmas.{signed_arith}
use Rattle.cron_time.specs.Seconds.{Seconds, matching_seconds}
use Rattle.cron_moments.specs.Readings.{Reading, instant}
use Rattle.cron_instants.specs.Order.{is_earlier}
use Rattle.cron_instants.proofs.OrderLemmas.{before-false, before-less, before-shared, before-true}
use Rattle.cron_clocks.proofs.TableLemmas.{same_offset}
use Rattle.cron_dues.specs.Clock.Due.{Clock, Due, clock_of, due}
use Rattle.cron_dues.specs.Clock.Dues.{is_past}
use Rattle.cron_dues.specs.Clock.FirstDues.{IsDue}
use Rattle.cron_c.specs.AgendaLaws.{HasDueFire, HasLeft, IsDueFire, IsLater, IsShownFire, StillHas, TheRestIsLeft, nominal}
use Rattle.cron_c.specs.Agendas.{FollowsIn, GoesOn, gone_on, own_eras, own_seconds}
use Rattle.cron_c.specs.Dues.{FollowsDue, IsDueItem}
use Rattle.cron_c.specs.Histories.{IsHistory}
use Rattle.cron_c.specs.HistoryClocks.{InHistory, IsClockOf, era_at}
use Rattle.cron_c.specs.Inner.AnyOffset.{offset_in_any}
use Rattle.cron_c.specs.Structs.{IsItem}
use Rattle.cron_c.specs.declared.entry.CronEntry.{CronEntry}
use Rattle.cron_c.specs.declared.era.CronEra.{CronEra}
use Rattle.cron_c.specs.declared.item.CronItem.{CronItem}
use Rattle.cron_c.specs.declared.status.Status.{Status}
use Rattle.cron_c.specs.declared.status.Status.TheVariants.{Done, NoItem}
use Rattle.cron_c.specs.declared.schedule.CronSchedule.{CronSchedule}
use Rattle.cron_c.proofs.AgendaOrder.{mapped}
use Rattle.cron_c.proofs.Dues.{nominal_is}

-- ---- structs

made : ℤ → ℤ → ℕ → CronItem
made n o k = record { instant = n; offset = o; reserved = k }

item-same : (a b : CronItem) → a.instant ≡ b.instant → a.offset ≡ b.offset → a.reserved ≡ b.reserved → a ≡ b
unfolding made
item-same a b p q r =
    let one : made a.instant a.offset a.reserved ≡ made b.instant a.offset a.reserved = ap (λ (n : ℤ). made n a.offset a.reserved) p in
    let two : made b.instant a.offset a.reserved ≡ made b.instant b.offset a.reserved = ap (λ (o : ℤ). made b.instant o a.reserved) q in
    let three : made b.instant b.offset a.reserved ≡ made b.instant b.offset b.reserved = ap (made b.instant b.offset) r in
    one ∙ (two ∙ three)

-- ---- items of a history

nominal-shown : (r : Reading) (a : CronItem) → IsItem r a → nominal a ≡ pos r.second
nominal-shown r a is =
    let at = is.instant_is in
    let offset = is.offset_is in
    let reserved = ap pos is.reserved_is in
    omega (arith, signed_arith)

later-shown : (r q : Reading) (a b : CronItem) → IsItem r a → IsItem q b → IsLater a b → is_earlier r q ≡ true
later-shown r q a b is other (inl less) =
    let at = is.instant_is in
    let there = other.instant_is in
    before-less (instant r) r.second (instant q) q.second (omega (arith, signed_arith))
later-shown r q a b is other (inr (equal, less)) =
    let at = is.instant_is in
    let there = other.instant_is in
    let first = nominal-shown r a is in
    let second = nominal-shown q b other in
    before-shared (instant r) r.second (instant q) q.second (omega (arith, signed_arith)) (omega (arith, signed_arith))

shown-later : (r q : Reading) (a b : CronItem) → IsItem r a → IsItem q b → is_earlier r q ≡ true → IsLater a b
shown-later r q a b is other earlier =
    let at = is.instant_is in
    let there = other.instant_is in
    let first = nominal-shown r a is in
    let second = nominal-shown q b other in
    elim (before-true (instant r) r.second (instant q) q.second earlier) [
      | inl less ↦ inl (omega (arith, signed_arith))
      | inr same ↦ let equal = same.0 in let less = same.1 in inr (omega (arith, signed_arith), omega (arith, signed_arith))
    ]

shown-split : (q first : Reading) (x next : CronItem) → IsItem q x → IsItem first next → is_earlier q first ≡ false → (x ≡ next) ⊎ IsLater next x
shown-split q first x next is other late =
    let at = is.instant_is in
    let there = other.instant_is in
    let here_second = nominal-shown q x is in
    let there_second = nominal-shown first next other in
    let same_reserved = is.reserved_is ∙ sym other.reserved_is in
    let reserved = ap pos same_reserved in
    elim (before-false (instant q) q.second (instant first) first.second late) [
      | inl less ↦ inr (inl (omega (arith, signed_arith)))
      | inr same ↦
          let equal = same.0 in
          let le = same.1 in
          elim (cases_lt first.second q.second) [
            | inl less ↦ inr (inr (omega (arith, signed_arith), omega (arith, signed_arith)))
            | inr ge ↦ inl (item-same x next (omega (arith, signed_arith)) (omega (arith, signed_arith)) same_reserved)
          ]
    ]

later-through : (a b c : CronItem) → IsLater a b → IsLater b c → IsLater a c
later-through a b c (inl l) (inl m) = inl (omega (arith, signed_arith))
later-through a b c (inl l) (inr (e, m)) = inl (omega (arith, signed_arith))
later-through a b c (inr (e, l)) (inl m) = inl (omega (arith, signed_arith))
later-through a b c (inr (e, l)) (inr (f, m)) = inr (omega (arith, signed_arith), omega (arith, signed_arith))

-- ---- what follows, by either rule

-- of the fires past one this comes next: each other is later
pub record IsNext (Fire : CronItem → Type 0) (Later : CronItem → CronItem → Type 0) (last next : CronItem) : Type 0 where
  pub fire : Fire next
  pub later : Later last next
  pub least : (x : CronItem) → Fire x → Later last x → (x ≡ next) ⊎ Later next x

shown-next : (s : Seconds) (eras : List CronEra) (last next : CronItem) → IsHistory eras → FollowsIn s eras last next Done
    → IsNext (IsShownFire s eras) IsLater last next
shown-next s eras last next history (r, first, given, found, item) =
    record {
      fire = (first, found.0.0, item);
      later = shown-later r first last next given.0 item found.0.1;
      least = λ x fire late.
          shown-split fire.0 first x next fire.2 item
          ((found.1 history).1 fire.0 (fire.1, later-shown r fire.0 last x given.0 fire.2 late));
    }

shown-none : (s : Seconds) (eras : List CronEra) (last new x : CronItem) → IsHistory eras → FollowsIn s eras last new NoItem
    → IsShownFire s eras x → IsLater last x → ⊥
shown-none s eras last new x history (r, given, found, kept) (q, is, item) late =
    found.1 history q (is, later-shown r q last x given.0 item late)

-- ---- due fires by a clock

own-second : (s : Seconds) (clock : Clock) (d : Due) → IsDue s clock d → d ≡ due clock d.second
own-second s clock d (i, here) =
    mapped clock d (slice_get (matching_seconds s) i) (sym (slice_get-map (due clock) (matching_seconds s) i) ∙ here)

past-less : (d q : Due) → is_past d q ≡ true → d.second < q.second
past-less d q h = grind (arith, ints)

less-past : (d q : Due) → d.second < q.second → is_past d q ≡ true
less-past d q h = grind (arith, ints)

due-same : (s : Seconds) (clock : Clock) (q first : Due) (x next : CronItem) → IsDue s clock q → IsDue s clock first → IsDueItem q x
    → IsDueItem first next → q.second ≡ first.second → x ≡ next
due-same s clock q first x next is other item struct equal =
    let same : q ≡ first = own-second s clock q is ∙ (ap (due clock) equal ∙ sym (own-second s clock first other)) in
    let told : IsDueItem first x = subst (λ (d : Due). IsDueItem d x) same item in
    item-same x next (told.instant_is ∙ sym struct.instant_is) (told.offset_is ∙ sym struct.offset_is) (told.past_is ∙ sym struct.past_is)

due-next : (s : Seconds) (clock : Clock) (last next : CronItem) → FollowsDue s last next clock Done
    → IsNext (IsDueFire s clock) (λ a b. nominal a <ℤ nominal b) last next
due-next s clock last next (d, first, given, found, item) =
    record {
      fire = (first, found.0.0, item);
      later =
          let more = past-less d first found.0.1 in
          let here = nominal_is d last given.0 in
          let there = nominal_is first next item in
          omega (arith, signed_arith);
      least = λ x fire late.
          let q = fire.0 in
          let here = nominal_is d last given.0 in
          let there = nominal_is first next item in
          let at = nominal_is q x fire.2 in
          let less : d.second < q.second = omega (arith, signed_arith) in
          let no_less = found.1 q (fire.1, less-past d q less) in
          elim (cases_lt first.second q.second) [
            | inl more ↦ inr (omega (arith, signed_arith))
            | inr ge ↦ inl (due-same s clock q first x next fire.1 found.0.0 fire.2 item (omega arith))
          ];
    }

due-none : (s : Seconds) (clock : Clock) (last new x : CronItem) → FollowsDue s last new clock NoItem → IsDueFire s clock x
    → nominal last <ℤ nominal x → ⊥
due-none s clock last new x (d, given, found, kept) (q, is, item) late =
    let here = nominal_is d last given.0 in
    let at = nominal_is q x item in
    let less : d.second < q.second = omega (arith, signed_arith) in
    found q (is, less-past d q less)

-- ---- one clock

same-clock : (eras : List CronEra) (a b : Clock) → IsClockOf eras a → IsClockOf eras b → a ≡ b
same-clock [] a b h g = absurd h
same-clock (e ∷ later) a b h g =
    fun_ext (λ n.
    let (z, of, is) = h n in
    let (y, other, told) = g n in
    is ∙ (same_offset (clock_of z n) (clock_of y n) (offset_in_any (era_at e later n).zone z y n of other) ∙ sym told))

-- ---- the law

nothing : (schedules : List CronSchedule) (eras : List CronEra) (clock : Clock) (e : CronEntry) (next x : CronItem)
    → StillHas schedules eras clock (gone_on e next NoItem) x → ⊥
nothing schedules eras clock e next x (live, left) = cc

module _ (schedules : List CronSchedule) (eras : List CronEra) (clock : Clock) (e : CronEntry) where
  -- what it has left, and its fire and what it has left then
  abbrev Left : CronItem → Type 0
  Left x = HasLeft schedules eras clock e x

  abbrev Rest : CronItem → Status → CronItem → Type 0
  Rest next status x = (x ≡ e.next) ⊎ StillHas schedules eras clock (gone_on e next status) x

  shown-on : (next x : CronItem) → e.rule ≡ 1 → IsNext (IsShownFire (own_seconds schedules e) (own_eras eras e)) IsLater e.next next → Left x → Rest next Done x
  shown-on next x rule n (inl is) = inl is
  shown-on next x rule n (inr (inl (r, fire, late))) =
      elim (n.least x fire late) [ inl same ↦ inr (rw rule refl, inl same) | inr later ↦ inr (rw rule refl, inr (inl (r, fire, later))) ]
  shown-on next x rule n (inr (inr (r, fire, late))) = absurd (omega (arith, rule, r))

  shown-back : (next x : CronItem) → e.rule ≡ 1 → IsNext (IsShownFire (own_seconds schedules e) (own_eras eras e)) IsLater e.next next → Rest next Done x → Left x
  shown-back next x rule n (inl is) = inl is
  shown-back next x rule n (inr (live, inl same)) =
      inr (inl (rule, subst (IsShownFire (own_seconds schedules e) (own_eras eras e)) (sym same) n.fire, subst (IsLater e.next) (sym same) n.later))
  shown-back next x rule n (inr (live, inr (inl (r, fire, late)))) = inr (inl (r, fire, later-through e.next next x n.later late))
  shown-back next x rule n (inr (live, inr (inr (r, fire, late)))) = absurd (omega (arith, rule, r))

  due-on : (next x : CronItem) → e.rule ≡ 2 → IsNext (IsDueFire (own_seconds schedules e) clock) (λ a b. nominal a <ℤ nominal b) e.next next → Left x → Rest next Done x
  due-on next x rule n (inl is) = inl is
  due-on next x rule n (inr (inl (r, fire, late))) = absurd (omega (arith, rule, r))
  due-on next x rule n (inr (inr (r, fire, late))) =
      elim (n.least x fire late) [ inl same ↦ inr (rw rule refl, inl same) | inr later ↦ inr (rw rule refl, inr (inr (r, fire, later))) ]

  due-back : (next x : CronItem) → e.rule ≡ 2 → IsNext (IsDueFire (own_seconds schedules e) clock) (λ a b. nominal a <ℤ nominal b) e.next next → Rest next Done x → Left x
  due-back next x rule n (inl is) = inl is
  due-back next x rule n (inr (live, inl same)) =
      inr (inr (rule, subst (IsDueFire (own_seconds schedules e) clock) (sym same) n.fire, subst (λ (y : CronItem). nominal e.next <ℤ nominal y) (sym same) n.later))
  due-back next x rule n (inr (live, inr (inl (r, fire, late)))) = absurd (omega (arith, rule, r))
  due-back next x rule n (inr (live, inr (inr (r, fire, late)))) = let more = n.later in inr (inr (r, fire, omega (arith, signed_arith)))

  -- without a next fire
  ended-on : (next x : CronItem) → (IsShownFire (own_seconds schedules e) (own_eras eras e) x → e.rule ≡ 1 → IsLater e.next x → ⊥)
      → (IsDueFire (own_seconds schedules e) clock x → e.rule ≡ 2 → nominal e.next <ℤ nominal x → ⊥) → Left x → Rest next NoItem x
  ended-on next x not_shown not_due (inl is) = inl is
  ended-on next x not_shown not_due (inr (inl (r, fire, late))) = absurd (not_shown fire r late)
  ended-on next x not_shown not_due (inr (inr (r, fire, late))) = absurd (not_due fire r late)

  ended-back : (next x : CronItem) → Rest next NoItem x → Left x
  ended-back next x (inl is) = inl is
  ended-back next x (inr still) = absurd (nothing schedules eras clock e next x still)

  rest-shown : (next x : CronItem) (status : Status) → (status ≡ Done) ⊎ (status ≡ NoItem) → e.rule ≡ 1 → IsHistory (own_eras eras e)
      → FollowsIn (own_seconds schedules e) (own_eras eras e) e.next next status → Left x ↔ Rest next status x
  rest-shown next x status (inl done) rule history follows =
      let n = shown-next (own_seconds schedules e) (own_eras eras e) e.next next history
      (subst (FollowsIn (own_seconds schedules e) (own_eras eras e) e.next next) done follows) in
      subst (λ (s : Status). Left x ↔ Rest next s x) (sym done) (shown-on next x rule n, shown-back next x rule n)
  rest-shown next x status (inr none) rule history follows =
      let said = subst (FollowsIn (own_seconds schedules e) (own_eras eras e) e.next next) none follows in
      subst (λ (s : Status). Left x ↔ Rest next s x) (sym none) (
        ended-on next x (λ fire r late. shown-none (own_seconds schedules e) (own_eras eras e) e.next next x history said fire late)
            (λ fire r late. absurd (omega (arith, rule, r))),
        ended-back next x,
      )

  rest-due : (next x : CronItem) (status : Status) → (status ≡ Done) ⊎ (status ≡ NoItem) → e.rule ≡ 2
      → FollowsDue (own_seconds schedules e) e.next next clock status → Left x ↔ Rest next status x
  rest-due next x status (inl done) rule follows =
      let n = due-next (own_seconds schedules e) clock e.next next
      (subst (FollowsDue (own_seconds schedules e) e.next next clock) done follows) in
      subst (λ (s : Status). Left x ↔ Rest next s x) (sym done) (due-on next x rule n, due-back next x rule n)
  rest-due next x status (inr none) rule follows =
      let said = subst (FollowsDue (own_seconds schedules e) e.next next clock) none follows in
      subst (λ (s : Status). Left x ↔ Rest next s x) (sym none) (
        ended-on next x (λ fire r late. absurd (omega (arith, rule, r)))
            (λ fire r late. due-none (own_seconds schedules e) clock e.next next x said fire late),
        ended-back next x,
      )

  -- what a history's clock says is said by each clock of it
  said-by : (next : CronItem) (status : Status) → (status ≡ Done) ⊎ (status ≡ NoItem) → IsClockOf (own_eras eras e) clock
      → InHistory (own_eras eras e) (FollowsDue (own_seconds schedules e) e.next next) (next ≡ e.next) status
      → FollowsDue (own_seconds schedules e) e.next next clock status
  said-by next Done went own (other, history, is, says) =
      subst (λ (c : Clock). FollowsDue (own_seconds schedules e) e.next next c Done) (same-clock (own_eras eras e) other clock is own) says
  said-by next NoItem went own (other, history, is, says) =
      subst (λ (c : Clock). FollowsDue (own_seconds schedules e) e.next next c NoItem) (same-clock (own_eras eras e) other clock is own) says
  said-by next status (inl done) own says = cc
  said-by next status (inr none) own says = cc

  rest-by : (next x : CronItem) (status : Status) → (status ≡ Done) ⊎ (status ≡ NoItem) → IsHistory (own_eras eras e)
      → HasDueFire schedules eras clock e → GoesOn schedules eras e next status → Left x ↔ Rest next status x
  rest-by next x status went history own (inl (has, inl (rule, follows))) = rest-shown next x status went rule history follows
  rest-by next x status went history own (inl (has, inr (inl (rule, follows)))) =
      rest-due next x status went rule (said-by next status went (own rule).0 follows)
  rest-by next x status went history own (inl (has, inr (inr (none_one, none_two, is, kept)))) = elim went [ inl done ↦ cc | inr none ↦ cc ]
  rest-by next x status went history own (inr (lacks, is, kept)) = elim went [ inl done ↦ cc | inr none ↦ cc ]

pub the_rest_is_left : TheRestIsLeft
the_rest_is_left schedules eras now old new place item clock taken history own x =
    subst
    (λ (y : CronItem). HasLeft schedules eras clock taken.comes.entry x
    ↔ ((x ≡ y) ⊎ StillHas schedules eras clock (gone_on taken.comes.entry taken.next taken.status) x))
    (sym taken.is) (rest-by schedules eras clock taken.comes.entry taken.next x taken.status taken.went history own taken.comes.goes_on)
