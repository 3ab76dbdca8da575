-- Fires that were taken one after another.
use Rattle.std.proofs.Common.{◌≡◌, ℕ, ℤ, List, [], ◌∷◌, ◌++◌, Some, inr, refl, sym, ap, subst, ◌∙◌}
use Rattle.std.specs.Prelude.{◌<◌, length, None, Result, Ok, Err, ⊤}
use Rattle.jiff_tz.specs.declared.timezone.TimeZone.{TimeZone}
use Rattle.cron_agenda.specs.declared.entry.Entry.{Entry}
use Rattle.cron_agenda.specs.declared.fire.AgendaFire.{AgendaFire}
use Rattle.cron_agenda.specs.Entries.{ComesFirst, Listed, TakesDue}
use Rattle.cron_agenda.specs.Merged.{AllAscend, merged}
use Rattle.cron_agenda.proofs.AheadLemmas.{first-one}
use Rattle.cron_agenda.proofs.MergeLemmas.{taken_is_first}
use Rattle.cron_tab_agenda.specs.Inner.Pushes.{IsPushed}
use Rattle.cron_tab_agenda.specs.Listing.{AreTaken, AreTheFront, EndsBy, IsTabTaken, Lists, own_of, agenda_fire}
use Rattle.cron_tab_agenda.specs.Tabs.{set_of}
use Rattle.cron_tab_agenda.specs.declared.error.ListError.{ListError}
use Rattle.cron_tab_agenda.specs.declared.error.ListError.TheVariants.{Zone, OutOfMemory}
use Rattle.cron_tab_agenda.specs.declared.listing.TabFire.{TabFire}
use Rattle.cron_tab_agenda.specs.declared.tab_entry.TabEntry.{TabEntry}

-- what is taken has the line of the entry that comes first
pub line-taken : (zones : List TimeZone) (t : ℤ) (old : Listed TabEntry) (first : Entry TabEntry) (taken : AgendaFire) (new : Listed TabEntry) (line : ℕ)
    → ComesFirst old.entries first → line ≡ first.table.line → TakesDue set_of zones t old (Ok (Some taken)) new
    → IsTabTaken zones t old (record { id = taken.id; line = line; fire = taken.fire }) new
line-taken zones t old first taken new line comes is takes = record {
  entry = first;
  first = comes;
  id = ap (λ (f : AgendaFire). f.id) takes.0.0.is ∙ ap (λ (e : Entry TabEntry). e.id) (first-one old.entries takes.0.0.entry first takes.0.0.first comes);
  line = is;
  is_last = taken.is_last;
  taken = takes;
}

-- ---- one more

pub taken-on : (zones : List TimeZone) (t : ℤ) (fires : List TabFire) (old mid : Listed TabEntry) (fire : TabFire) (new : Listed TabEntry)
    → AreTaken zones t old fires mid → IsTabTaken zones t mid fire new → AreTaken zones t old (fires ++ fire ∷ []) new
taken-on zones t [] old mid fire new were is = (new, subst (λ a. IsTabTaken zones t a fire new) were is, refl)
taken-on zones t (f ∷ fires) old mid fire new were is = (were.0, were.1, taken-on zones t fires were.0 mid fire new were.2 is)

-- ---- they are the front

pub taken-front : (zones : List TimeZone) (t : ℤ) (fires : List TabFire) (old new : Listed TabEntry) → AreTaken zones t old fires new
    → AllAscend set_of zones old.entries → AreTheFront zones old fires new × AllAscend set_of zones new.entries
taken-front zones t [] old new were up =
    (ap (λ (a : Listed TabEntry). merged set_of zones a.entries) (sym were), subst (λ (a : Listed TabEntry). AllAscend set_of zones a.entries) (sym were) up)
taken-front zones t (f ∷ fires) old new were up =
    let one = taken_is_first set_of zones old.entries (agenda_fire f were.1.is_last) were.0.entries up were.1.taken.0.0 in
    let rest = taken-front zones t fires were.0 new were.2 one.1 in
    (one.0 ∙ ap (λ l. own_of f ∷ l) rest.0, rest.1)

-- ---- why it ends

pub lists-so : (zones : List TimeZone) (t : ℤ) (limit : ℕ) (old : Listed TabEntry) (before more : List TabFire) (answer : Result ⊤ ListError) (after : List TabFire) (new : Listed TabEntry)
    → after ≡ before ++ more → AreTaken zones t old more new → EndsBy zones t limit (length more) answer new → Lists zones t limit old before answer after new
lists-so zones t limit old before more answer after new is were ends =
    record { more = more; are = is; taken = were; front = taken-front zones t more old new were; ends = ends }

module _ (zones : List TimeZone) (t : ℤ) (limit : ℕ) (old : Listed TabEntry) (before more : List TabFire) (mid : Listed TabEntry) (middle : List TabFire) (after : List TabFire) (new : Listed TabEntry)
    (is : middle ≡ before ++ more) (were : AreTaken zones t old more mid) where
  still : new ≡ mid → AreTaken zones t old more new
  still same = subst (λ a. AreTaken zones t old more a) (sym same) were

  pub lists-none : TakesDue set_of zones t mid (Ok None) new × (after ≡ middle) → (done : ⊤) → Lists zones t limit old before (Ok done) after new
  lists-none pushed done =
      lists-so zones t limit old before more (Ok done) after new (pushed.1 ∙ is) (still pushed.0.1)
      (inr (subst (λ a. TakesDue set_of zones t a (Ok None) a) (sym pushed.0.1) (pushed.0.0, refl)))

  pub lists-error : (error : ListError) → length more < limit → IsPushed zones t mid middle (Err error) after new
      → Lists zones t limit old before (Err error) after new
  lists-error (Zone why) less pushed =
      lists-so zones t limit old before more (Err (Zone why)) after new (pushed.1 ∙ is) (still pushed.0.2)
      (less, subst (λ a. TakesDue set_of zones t a (Err why) a) (sym pushed.0.2) (pushed.0.0, pushed.0.1, refl))
  lists-error OutOfMemory less pushed = lists-so zones t limit old before more (Err OutOfMemory) after new (pushed.1 ∙ is) (still pushed.0) less
