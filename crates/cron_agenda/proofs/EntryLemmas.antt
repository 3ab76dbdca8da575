-- Entries alone: whether one is due, and what an insertion adds.
use Rattle.std.proofs.Common.{◌≡◌, ℕ, ℤ, pos, ◌*ℤ◌, ◌≤ℤ◌, Bool, true, false, cond, List, [], ◌∷◌, ◌++◌, Option, Some, None, inl, inr, refl, sym, ap, subst, ◌∙◌, arith}
use Rattle.std.specs.Prelude.{filter, slice_get, int_le, Result, Ok, Err}
use Rattle.std.proofs.lemmas.List.Elements.{filter-append}
use Rattle.jiff_core.proofs.SignedLemmas.{signed_arith}
use Rattle.cron_clocks.proofs.Windows.{le_no}
use Rattle.cron_instants.specs.Order.{comes_before}
use Rattle.cron_instants.proofs.OrderLemmas.{before-true}
use Rattle.cron_seconds.proofs.IntLemmas.{int_le-false}
use Rattle.cron_agenda.specs.declared.entry.Entry.{Entry}
use Rattle.cron_agenda.specs.declared.error.AddError.{AddError}
use Rattle.cron_agenda.specs.declared.error.ZoneMissing.{ZoneMissing}
use Rattle.cron_agenda.specs.declared.fire.AgendaFire.{AgendaFire}
use Rattle.cron_agenda.specs.declared.fire.EntryFire.{EntryFire}
use Rattle.jiff_tz.specs.declared.timezone.TimeZone.{TimeZone}
use Rattle.cron_time.specs.Seconds.{Seconds}
use Rattle.cron_agenda.specs.Fires.{fires_past, instant}
use Rattle.cron_agenda.specs.Entries.{Adds, ComesFirst, IsBeforeAll, IsRefused, Listed, TakesDue, TakesNext, is_by}
use Rattle.cron_agenda.specs.Inner.Slots.{Inserts}

-- ---- whether a fire is due

none_by : {T : Type 0} (t : ℤ) (e : Entry T) (es : List (Entry T)) → is_by t e ≡ false → IsBeforeAll e es → filter (is_by t) es ≡ []
none_by t e [] late h = refl
none_by t e (o ∷ es) late h =
    let no_less = no_later (instant e.fire) e.id (instant o.fire) o.id h.0 in
    let over = int_le-false (instant e.fire *ℤ pos 1_000_000_000) t late in
    let fails : is_by t o ≡ false = le_no (instant o.fire *ℤ pos 1_000_000_000) t (omega (arith, signed_arith)) in
    rw fails (none_by t e es late h.1)
  where
    no_later : (i : ℤ) (c : ℕ) (j : ℤ) (d : ℕ) → comes_before i c j d ≡ true → i ≤ℤ j
    no_later i c j d before = elim (before-true i c j d before) [
      | inl less ↦ omega (arith, signed_arith)
      | inr same ↦ let equal = same.0 in omega (arith, signed_arith)
    ]

ahead-parts : {T : Type 0} (e : Entry T) (a b : List (Entry T)) → IsBeforeAll e (a ++ b) → IsBeforeAll e a × IsBeforeAll e b
ahead-parts e [] b h = (tt, h)
ahead-parts e (x ∷ a) b h = let rest = ahead-parts e a b h.1 in ((h.0, rest.0), rest.1)

-- where the entry that comes first isn't due, none is
pub none_due : {T : Type 0} (t : ℤ) (es : List (Entry T)) (e : Entry T) → ComesFirst es e → is_by t e ≡ false → filter (is_by t) es ≡ []
none_due t es e first late =
    let parts = ahead-parts e first.before first.after first.others in
    ap (filter (is_by t)) first.is
    ∙ filter-append (is_by t) first.before (e ∷ first.after)
    ∙ ap (λ l. l ++ filter (is_by t) (e ∷ first.after)) (none_by t e first.before late parts.0)
    ∙ ap (λ b. cond b (e ∷ filter (is_by t) first.after) (filter (is_by t) first.after)) late
    ∙ none_by t e first.after late parts.1

not_empty : {X : Type 0} (a b : List X) (x : X) → a ++ x ∷ b ≡ [] → ⊥
not_empty [] b x e = cc
not_empty (y ∷ a) b x e = cc

due_first : {T : Type 0} (t : ℤ) (es : List (Entry T)) (first e : Entry T) → ComesFirst es first → is_by t first ≡ true → ComesFirst es e → is_by t e ≡ true
due_first t es first e comes due other = by_test (is_by t e) refl
  where
    by_test : (b : Bool) → is_by t e ≡ b → b ≡ true
    by_test true is = refl
    by_test false is =
        let none = none_due t es e other is in
        absurd (not_empty (filter (is_by t) comes.before) (filter (is_by t) comes.after) first
        (ap (λ b. filter (is_by t) comes.before ++ cond b (first ∷ filter (is_by t) comes.after) (filter (is_by t) comes.after)) (sym due)
        ∙ sym (filter-append (is_by t) comes.before (first ∷ comes.after)) ∙ sym (ap (filter (is_by t)) comes.is) ∙ none))

-- what is taken where the entry that comes first is due
pub due_next : {T : Type 0} (has : T → Seconds) (zones : List TimeZone) (t : ℤ) (old : Listed T) (answer : Result (Option AgendaFire) ZoneMissing)
    (new : Listed T) (first : Entry T) → ComesFirst old.entries first → is_by t first ≡ true → TakesNext has zones old answer new
    → TakesDue has zones t old answer new
due_next has zones t old (Ok None) new first comes due takes = (ap (filter (is_by t)) takes.0, takes.1)
due_next has zones t old (Ok (Some taken)) new first comes due takes = (
  takes,
  ap (λ (f : AgendaFire). int_le (instant f.fire *ℤ pos 1_000_000_000) t) takes.0.is ∙ due_first t old.entries first takes.0.entry comes due takes.0.first,
)
due_next has zones t old (Err why) new first comes due takes =
    (takes.0, due_first t old.entries first takes.0.entry comes due takes.0.first, takes.1)

-- ---- what an insertion adds

pub added : {T : Type 0} (has : T → Seconds) (zones : List TimeZone) (table : T) (zone : ℕ) (fires : TimeZone → List EntryFire) (old : Listed T)
    (answer : Result ℕ AddError) (new : Listed T) (z : TimeZone) (fire : EntryFire) → slice_get zones zone ≡ Some z
    → fires z ≡ fire ∷ fires_past (has table) z fire → Inserts table zone fire old answer new → Adds has zones table zone fires old answer new
added has zones table zone fires old (Ok id) new z fire lent first inserts = (z, fire, lent, first, inserts.0, inserts.1, inserts.2)
added has zones table zone fires old (Err why) new z fire lent first inserts = (
  elim inserts.0 [
    | inl e ↦ subst (IsRefused zones zone fires old.added old.room) (sym e.0) e.1
    | inr e ↦ subst (IsRefused zones zone fires old.added old.room) (sym e.0) (e.1, e.2)
  ],
  inserts.1,
)
