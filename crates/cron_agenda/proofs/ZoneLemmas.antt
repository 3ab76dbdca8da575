-- What entries have left in zones that come behind those lent.
use Rattle.std.proofs.Common.{◌≡◌, ℕ, Bool, true, false, cond, List, [], ◌∷◌, ◌++◌, map, Option, Some, None, refl, sym, ap, subst, ◌∙◌}
use Rattle.std.specs.Prelude.{Result, Ok, Err, not, slice_get, ◌==◌}
use Rattle.jiff_tz.specs.declared.timezone.TimeZone.{TimeZone}
use Rattle.cron_time.specs.Seconds.{Seconds}
use Rattle.cron_agenda.specs.declared.entry.Entry.{Entry}
use Rattle.cron_agenda.specs.declared.error.AddError.{AddError}
use Rattle.cron_agenda.specs.declared.fire.AgendaFire.{AgendaFire}
use Rattle.cron_agenda.specs.declared.fire.EntryFire.{EntryFire}
use Rattle.cron_agenda.specs.Entries.{Adds, IsTaken, Listed, entry, gone_on, without}
use Rattle.cron_agenda.specs.Laws.{AreLent, StayLent, ZonesMayGrow}
use Rattle.cron_agenda.specs.Merged.{AllAscend, Ascend, all_of, in_order, left, owned, rest_in}
use Rattle.cron_agenda.proofs.ListLemmas.{get-before}

-- ---- with zones behind them

module _ {T : Type 0} (has : T → Seconds) (zones others : List TimeZone) where
  lent_left : (e : Entry T) (zone : TimeZone) → slice_get zones e.zone ≡ Some zone → left has (zones ++ others) e ≡ left has zones e
  lent_left e zone lent =
      ap (λ o. e.fire ∷ rest_in (has e.table) o e.fire) (get-before zones others e.zone zone lent ∙ sym lent)

  each_left : (es : List (Entry T)) → AreLent zones es → map (left has (zones ++ others)) es ≡ map (left has zones) es
  each_left [] lent = refl
  each_left (e ∷ es) lent =
      ap (λ l. l ∷ map (left has (zones ++ others)) es) (lent_left e lent.0.0 lent.0.1) ∙ ap (λ l. left has zones e ∷ l) (each_left es lent.1)

  all_left : (es : List (Entry T)) → AreLent zones es → all_of has (zones ++ others) es ≡ all_of has zones es
  all_left [] lent = refl
  all_left (e ∷ es) lent =
      ap (λ l. owned e.id l ++ all_of has (zones ++ others) es) (lent_left e lent.0.0 lent.0.1)
      ∙ ap (λ l. owned e.id (left has zones e) ++ l) (all_left es lent.1)

  ascend_left : (es : List (Entry T)) → AreLent zones es → AllAscend has zones es → AllAscend has (zones ++ others) es
  ascend_left [] lent up = tt
  ascend_left (e ∷ es) lent up = (subst Ascend (sym (lent_left e lent.0.0 lent.0.1)) up.0, ascend_left es lent.1 up.1)

pub zones_may_grow : {T : Type 0} (has : T → Seconds) → ZonesMayGrow has
zones_may_grow has = record {
  each = each_left has;
  all = λ zones others es lent. ap in_order (all_left has zones others es lent);
  ascend = ascend_left has;
}

-- ---- they stay lent

lent-grown : {T : Type 0} (zones others : List TimeZone) (es : List (Entry T)) → AreLent zones es → AreLent (zones ++ others) es
lent-grown zones others [] lent = tt
lent-grown zones others (e ∷ es) lent =
    ((lent.0.0, get-before zones others e.zone lent.0.0 lent.0.1), lent-grown zones others es lent.1)

module _ {T : Type 0} (zones : List TimeZone) where
  lent-append : (a b : List (Entry T)) → AreLent zones a → AreLent zones b → AreLent zones (a ++ b)
  lent-append [] b h g = g
  lent-append (e ∷ a) b h g = (h.0, lent-append a b h.1 g)

  lent-before : (a b : List (Entry T)) → AreLent zones (a ++ b) → AreLent zones a
  lent-before [] b h = tt
  lent-before (e ∷ a) b h = (h.0, lent-before a b h.1)

  lent-behind : (a b : List (Entry T)) → AreLent zones (a ++ b) → AreLent zones b
  lent-behind [] b h = h
  lent-behind (e ∷ a) b h = lent-behind a b h.1

  lent-less_by : (e : Entry T) (es : List (Entry T)) (b : Bool) → ((zone : TimeZone) × (slice_get zones e.zone ≡ Some zone)) → AreLent zones es
      → AreLent zones (cond b (e ∷ es) es)
  lent-less_by e es true here h = (here, h)
  lent-less_by e es false here h = h

  lent-less : (id : ℕ) (es : List (Entry T)) → AreLent zones es → AreLent zones (without id es)
  lent-less id [] lent = tt
  lent-less id (e ∷ es) lent = lent-less_by e (without id es) (not (e.id == id)) lent.0 (lent-less id es lent.1)

  lent-gone : (e : Entry T) (next : Option EntryFire) → AreLent zones (e ∷ []) → AreLent zones (gone_on e next)
  lent-gone e None lent = tt
  lent-gone e (Some fire) lent = lent

  module _ (has : T → Seconds) where
    lent-more : (table : T) (zone : ℕ) (fires : TimeZone → List EntryFire) (old : Listed T) (answer : Result ℕ AddError) (new : Listed T)
        → Adds has zones table zone fires old answer new → AreLent zones old.entries → AreLent zones new.entries
    lent-more table zone fires old (Ok id) new adds lent =
        subst (λ (l : Listed T). AreLent zones l.entries) (sym adds.5)
        (lent-append old.entries (entry id table zone adds.1 ∷ []) lent ((adds.0, adds.2), tt))
    lent-more table zone fires old (Err why) new adds lent = subst (λ (l : Listed T). AreLent zones l.entries) (sym adds.1) lent

    lent-taken : (old : List (Entry T)) (taken : AgendaFire) (new : List (Entry T)) → IsTaken has zones old taken new → AreLent zones old → AreLent zones new
    lent-taken old taken new is lent =
        let e = is.entry in
        let a = is.first.before in
        let b = is.first.after in
        let there = subst (AreLent zones) is.first.is lent in
        let here = lent-behind a (e ∷ b) there in
        subst (AreLent zones) (sym is.now)
        (lent-append a (gone_on e is.next ++ b) (lent-before a (e ∷ b) there)
        (lent-append (gone_on e is.next) b (lent-gone e is.next (here.0, tt)) here.1))

pub stay_lent : {T : Type 0} (has : T → Seconds) → StayLent has
stay_lent has = record {
  none = λ zones. tt;
  grown = lent-grown;
  more = λ zones. lent-more zones has;
  less = lent-less;
  taken = λ zones. lent-taken zones has;
}
