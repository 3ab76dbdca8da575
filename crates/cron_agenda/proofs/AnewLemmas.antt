-- What entries have left that are added anew after a restart.
use Rattle.std.proofs.Common.{◌≡◌, ℕ, ◌+◌, ◌<◌, Bool, true, false, List, [], ◌∷◌, ◌++◌, map, refl, sym, ap, subst, ◌∙◌, arith}
use Rattle.std.specs.Prelude.{Err, Ok, Some, if◌then◌else◌, slice_get, ◌==◌}
use Rattle.std.specs.List.{filter, flat_map}
use Rattle.std.proofs.lemmas.Bool.{eq-eqb}
use Rattle.std.proofs.lemmas.List.{append-nil, map-append}
use Rattle.std.proofs.lemmas.List.Concat.{flat_map_single}
use Rattle.std.proofs.lemmas.List.Elements.{filter-append}
use Rattle.std.proofs.lemmas.Simd.{map-map}
use Rattle.jiff_tz.specs.declared.timezone.TimeZone.{TimeZone}
use Rattle.cron_time.specs.Seconds.{Seconds}
use Rattle.cron_agenda.specs.declared.entry.Entry.{Entry}
use Rattle.cron_agenda.specs.declared.error.AddError.TheVariants.{NoFires}
use Rattle.cron_agenda.specs.declared.fire.AgendaFire.{AgendaFire}
use Rattle.cron_agenda.specs.declared.fire.EntryFire.{EntryFire}
use Rattle.cron_agenda.specs.Entries.{Adds, HaveIds, Listed, entry}
use Rattle.cron_agenda.specs.Fires.{fires_past}
use Rattle.cron_agenda.specs.Laws.{AddedAreAnew, AddedHasAll, RestartOfAllGoesOn}
use Rattle.cron_agenda.specs.Merged.{AllAscend, AreTaken, Ascend, IsAnew, OwnFire, all_of, behind, goes_on, in_order, last_of, left, merged, new_id, own, owned, precedes, put, renamed, rest_in}
use Rattle.cron_agenda.proofs.ListLemmas.{some_same}
use Rattle.cron_agenda.proofs.MergeLemmas.{before-later_id, before-same_id}
use Rattle.cron_agenda.proofs.RestLemmas.{ids-taken, rest_is, unlike}

-- ---- the order under new ids

module _ (new : ℕ → ℕ) where
  abbrev rename : OwnFire → OwnFire
  rename o = own (new o.id) o.fire

  -- a fire comes before each of these exactly where it does under new ids
  abbrev IsKept : OwnFire → List OwnFire → Type 0
  IsKept d [] = Unit {0}
  IsKept d (x ∷ l) = (precedes (rename d) (rename x) ≡ precedes d x) × IsKept d l

  -- each of some fires does, of those behind it
  abbrev AreKept : List OwnFire → Type 0
  AreKept [] = Unit {0}
  AreKept (d ∷ l) = IsKept d l × AreKept l

  kept-append : (d : OwnFire) (a b : List OwnFire) → IsKept d a → IsKept d b → IsKept d (a ++ b)
  kept-append d [] b h g = g
  kept-append d (x ∷ a) b h g = (h.0, kept-append d a b h.1 g)

  kept-put_by : (d x y : OwnFire) (l : List OwnFire) (t : Bool) → precedes x y ≡ t → precedes (rename d) (rename x) ≡ precedes d x → IsKept d (y ∷ l)
      → IsKept d (put x l) → IsKept d (put x (y ∷ l))
  unfolding put
  kept-put_by d x y l true is one h below = rw is (one, h)
  kept-put_by d x y l false is one h below = rw is (h.0, below)

  kept-put : (d x : OwnFire) (l : List OwnFire) → precedes (rename d) (rename x) ≡ precedes d x → IsKept d l → IsKept d (put x l)
  unfolding put
  kept-put d x [] one h = (one, tt)
  kept-put d x (y ∷ l) one h = kept-put_by d x y l (precedes x y) refl one h (kept-put d x l one h.1)

  kept-in_order : (d : OwnFire) (l : List OwnFire) → IsKept d l → IsKept d (in_order l)
  unfolding in_order
  kept-in_order d [] h = tt
  kept-in_order d (x ∷ l) h = kept-put d x (in_order l) h.0 (kept-in_order d l h.1)

  put-renamed_by : (d y : OwnFire) (l : List OwnFire) (t : Bool) → precedes d y ≡ t → precedes (rename d) (rename y) ≡ t
      → put (rename d) (map rename l) ≡ map rename (put d l) → put (rename d) (map rename (y ∷ l)) ≡ map rename (put d (y ∷ l))
  unfolding put
  put-renamed_by d y l true was is below = rw (was, is) refl
  put-renamed_by d y l false was is below = rw (was, is) (ap (λ m. rename y ∷ m) below)

  put-renamed : (d : OwnFire) (l : List OwnFire) → IsKept d l → put (rename d) (map rename l) ≡ map rename (put d l)
  unfolding put
  put-renamed d [] h = refl
  put-renamed d (y ∷ l) h = put-renamed_by d y l (precedes d y) refl h.0 (put-renamed d l h.1)

  -- so some are in the same order under new ids
  in_order-renamed : (l : List OwnFire) → AreKept l → in_order (map rename l) ≡ map rename (in_order l)
  unfolding in_order
  in_order-renamed [] h = refl
  in_order-renamed (d ∷ l) h = ap (put (rename d)) (in_order-renamed l h.1) ∙ put-renamed d (in_order l) (kept-in_order d l h.0)

  -- ---- one entry under a new id

  kept-own : (id : ℕ) (f : EntryFire) (l : List EntryFire) → IsKept (own id f) (owned id l)
  kept-own id f [] = tt
  kept-own id f (g ∷ l) = (before-same_id id (new id) f g, kept-own id f l)

  kept-later : (id later : ℕ) (f : EntryFire) (l : List EntryFire) → id < later → new id < new later → IsKept (own id f) (owned later l)
  kept-later id later f [] less still = tt
  kept-later id later f (g ∷ l) less still = (before-later_id id later (new id) (new later) f g less still, kept-later id later f l less still)

  kept-owned : (id : ℕ) (l : List EntryFire) (others : List OwnFire) → ((f : EntryFire) → IsKept (own id f) others) → AreKept others
      → AreKept (owned id l ++ others)
  kept-owned id [] others h g = g
  kept-owned id (f ∷ l) others h g = (kept-append (own id f) (owned id l) others (kept-own id f l) (h f), kept-owned id l others h g)

-- ---- all entries under new ids

module _ {T : Type 0} (has : T → Seconds) (zones : List TimeZone) where
  -- new entries have left what old ones have, under new ids
  abbrev Fit : (ℕ → ℕ) → List (Entry T) → List (Entry T) → Type 0
  Fit new [] [] = Unit {0}
  Fit new [] (n ∷ news) = ⊥
  Fit new (e ∷ olds) [] = ⊥
  Fit new (e ∷ olds) (n ∷ news) = (new e.id ≡ n.id) × (left has zones n ≡ left has zones e) × Fit new olds news

  fit-later : (new : ℕ → ℕ) (id is : ℕ) (olds news : List (Entry T)) (low high : ℕ) → id < low → HaveIds low olds high → Fit new olds news
      → Fit (λ i. if id == i then is else new i) olds news
  fit-later new id is [] [] low high less ids fit = tt
  fit-later new id is [] (n ∷ news) low high less ids fit = fit
  fit-later new id is (e ∷ olds) [] low high less ids fit = fit
  fit-later new id is (e ∷ olds) (n ∷ news) low high less ids fit =
      let first = ids.0 in (
        ap (λ b. if b then is else new e.id) (unlike id e.id (λ same. omega arith)) ∙ fit.0,
        fit.1,
        fit-later new id is olds news (e.id + 1) high (omega arith) ids.1 fit.2,
      )

  new_ids-fit : (olds news : List (Entry T)) (low high : ℕ) → HaveIds low olds high → map (left has zones) news ≡ map (left has zones) olds
      → Fit (new_id olds news) olds news
  new_ids-fit [] [] low high ids same = tt
  new_ids-fit [] (n ∷ news) low high ids same = cc
  new_ids-fit (e ∷ olds) [] low high ids same = cc
  new_ids-fit (e ∷ olds) (n ∷ news) low high ids same = (
    ap (λ b. if b then n.id else new_id olds news e.id) (eq-eqb e.id e.id refl),
    cc,
    fit-later (new_id olds news) e.id n.id olds news (e.id + 1) high (omega arith) ids.1 (new_ids-fit olds news (e.id + 1) high ids.1 (cc)),
  )

  all-renamed : (new : ℕ → ℕ) (olds news : List (Entry T)) → Fit new olds news → all_of has zones news ≡ map (rename new) (all_of has zones olds)
  all-renamed new [] [] fit = refl
  all-renamed new [] (n ∷ news) fit = absurd fit
  all-renamed new (e ∷ olds) [] fit = absurd fit
  all-renamed new (e ∷ olds) (n ∷ news) fit =
      ap (λ l. owned n.id l ++ all_of has zones news) fit.1
      ∙ ap (λ i. owned i (left has zones e) ++ all_of has zones news) (sym fit.0)
      ∙ ap (λ l. owned (new e.id) (left has zones e) ++ l) (all-renamed new olds news fit.2)
      ∙ ap (λ l. l ++ map (rename new) (all_of has zones olds)) (sym (map-map (rename new) (own e.id) (left has zones e)))
      ∙ sym (map-append (rename new) (owned e.id (left has zones e)) (all_of has zones olds))

  kept-behind : (new : ℕ → ℕ) (id : ℕ) (f : EntryFire) (olds news : List (Entry T)) (low high first end : ℕ) → id < low → new id < first
      → HaveIds low olds high → HaveIds first news end → Fit new olds news → IsKept new (own id f) (all_of has zones olds)
  kept-behind new id f [] [] low high first end less still ids ids_new fit = tt
  kept-behind new id f [] (n ∷ news) low high first end less still ids ids_new fit = absurd fit
  kept-behind new id f (e ∷ olds) [] low high first end less still ids ids_new fit = absurd fit
  kept-behind new id f (e ∷ olds) (n ∷ news) low high first end less still ids ids_new fit =
      let here = ids.0 in
      let there = ids_new.0 in
      let is = fit.0 in
      kept-append new (own id f) (owned e.id (left has zones e)) (all_of has zones olds)
      (kept-later new id e.id f (left has zones e) (omega arith) (omega arith))
      (kept-behind new id f olds news (e.id + 1) high (n.id + 1) end (omega arith) (omega arith) ids.1 ids_new.1 fit.2)

  kept-all : (new : ℕ → ℕ) (olds news : List (Entry T)) (low high first end : ℕ) → HaveIds low olds high → HaveIds first news end → Fit new olds news
      → AreKept new (all_of has zones olds)
  kept-all new [] [] low high first end ids ids_new fit = tt
  kept-all new [] (n ∷ news) low high first end ids ids_new fit = absurd fit
  kept-all new (e ∷ olds) [] low high first end ids ids_new fit = absurd fit
  kept-all new (e ∷ olds) (n ∷ news) low high first end ids ids_new fit =
      let is = fit.0 in
      kept-owned new e.id (left has zones e) (all_of has zones olds)
      (λ f. kept-behind new e.id f olds news (e.id + 1) high (n.id + 1) end (omega arith) (omega arith) ids.1 ids_new.1 fit.2)
      (kept-all new olds news (e.id + 1) high (n.id + 1) end ids.1 ids_new.1 fit.2)

  merged-renamed : (olds news : List (Entry T)) (low high first end : ℕ) → HaveIds low olds high → HaveIds first news end
      → map (left has zones) news ≡ map (left has zones) olds
      → merged has zones news ≡ map (renamed olds news) (merged has zones olds)
  merged-renamed olds news low high first end ids ids_new same =
      let fit = new_ids-fit olds news low high ids same in
      ap in_order (all-renamed (new_id olds news) olds news fit)
      ∙ in_order-renamed (new_id olds news) (all_of has zones olds) (kept-all (new_id olds news) olds news low high first end ids ids_new fit)

  still-ascend : (olds news : List (Entry T)) → map (left has zones) news ≡ map (left has zones) olds → AllAscend has zones olds
      → AllAscend has zones news
  still-ascend olds [] same up = tt
  still-ascend [] (n ∷ news) same up = cc
  still-ascend (e ∷ olds) (n ∷ news) same up =
      let one : left has zones e ≡ left has zones n = cc in (subst Ascend one up.0, still-ascend olds news (cc) up.1)

  -- ---- a run that isn't cut

  -- what an entry has left, where that is something
  abbrev some_left : ℕ → List EntryFire → List (List EntryFire)
  some_left id [] = []
  some_left id (f ∷ l) = (f ∷ l) ∷ []

  some_first : (id : ℕ) (l : List EntryFire) (ls : List (List EntryFire)) → filter goes_on (l ∷ ls) ≡ some_left id l ++ filter goes_on ls
  some_first id [] ls = refl
  some_first id (f ∷ l) ls = refl

  some_of : (has : Entry T → List EntryFire) (es : List (Entry T)) → filter goes_on (map has es) ≡ flat_map (λ e. some_left e.id (has e)) es
  some_of has [] = refl
  some_of has (e ∷ es) = some_first e.id (has e) (map has es) ∙ ap (λ l. some_left e.id (has e) ++ l) (some_of has es)

  uncut_are_anew : (fires : List AgendaFire) (olds now : List (Entry T)) (low high : ℕ) → HaveIds low olds high → AreTaken has zones fires olds now
      → IsAnew has zones fires olds now
  uncut_are_anew fires olds now low high ids taken =
      sym (flat_map_single (left has zones) now)
      ∙ rest_is has zones some_left (λ id. refl) fires olds now low high ids taken
      ∙ sym (some_of (λ e. behind has zones (last_of e.id fires) e) olds)

pub restart_of_all_goes_on : {T : Type 0} (has : T → Seconds) → RestartOfAllGoesOn has
restart_of_all_goes_on has zones fires olds now news low high first end ids ids_new taken anew =
    let same = anew ∙ sym (uncut_are_anew has zones fires olds now low high ids taken) in
    let all = merged-renamed has zones now news low high first end (ids-taken has zones fires olds now low high ids taken) ids_new same in
    record {
      each = same;
      all = all;
      fires = ap (map (λ (o : OwnFire). o.fire)) all ∙ map-map (λ (o : OwnFire). o.fire) (renamed now news) (merged has zones now);
      ascend = still-ascend has zones now news same;
    }

-- ---- entries that are added

pub added_has_all : {T : Type 0} (has : T → Seconds) → AddedHasAll has
added_has_all has zones table zone fires old id new adds =
    (adds.1, ap (λ (l : Listed _). l.entries) adds.5, λ z lent. all z lent (some_same (sym lent ∙ adds.2)))
  where
    all : (z : TimeZone) → slice_get zones zone ≡ Some z → z ≡ adds.0 → left has zones (entry id table zone adds.1) ≡ fires z
    all z lent same = ap (λ o. adds.1 ∷ rest_in (has table) o adds.1) adds.2 ∙ sym adds.3 ∙ ap fires (sym same)

module _ {T : Type 0} (has : T → Seconds) (zones : List TimeZone) (fires : List AgendaFire) (olds : List (Entry T)) (e : Entry T) where
  abbrev behind_of : Entry T → List EntryFire
  behind_of o = behind has zones (last_of o.id fires) o

  has-more : filter goes_on (map behind_of (olds ++ e ∷ [])) ≡ filter goes_on (map behind_of olds) ++ filter goes_on (behind_of e ∷ [])
  has-more = ap (filter goes_on) (map-append behind_of olds (e ∷ [])) ∙ filter-append goes_on (map behind_of olds) (behind_of e ∷ [])

  has-past : (last : EntryFire) (zone : TimeZone) → last_of e.id fires ≡ Some last → slice_get zones e.zone ≡ Some zone
      → behind_of e ≡ fires_past (has e.table) zone last
  has-past last zone noted lent = ap (λ o. behind has zones o e) noted ∙ ap (λ o. rest_in (has e.table) o last) lent

  module _ (all : TimeZone → List EntryFire) (old new : Listed T) (is : (zone : TimeZone) → slice_get zones e.zone ≡ Some zone → behind_of e ≡ all zone)
      (anew : IsAnew has zones fires olds old.entries) where
    anew-added : (id : ℕ) → Adds has zones e.table e.zone all old (Ok id) new → IsAnew has zones fires (olds ++ e ∷ []) new.entries
    anew-added id adds =
        let own_is = added_has_all has zones e.table e.zone all old id new adds in
        ap (map (left has zones)) own_is.1
        ∙ map-append (left has zones) old.entries (entry id e.table e.zone own_is.0 ∷ [])
        ∙ ap (λ l. l ++ filter goes_on (left has zones (entry id e.table e.zone own_is.0) ∷ [])) anew
        ∙ ap (λ l. filter goes_on (map behind_of olds) ++ filter goes_on (l ∷ [])) (own_is.2 adds.0 adds.2 ∙ sym (is adds.0 adds.2))
        ∙ sym has-more

    anew-ended : Adds has zones e.table e.zone all old (Err NoFires) new → IsAnew has zones fires (olds ++ e ∷ []) new.entries
    anew-ended adds =
        ap (λ (l : Listed T). map (left has zones) l.entries) adds.1
        ∙ anew
        ∙ sym (append-nil (filter goes_on (map behind_of olds)))
        ∙ ap (λ l. filter goes_on (map behind_of olds) ++ filter goes_on (l ∷ [])) (sym (is adds.0.0 adds.0.1 ∙ adds.0.2))
        ∙ sym has-more

pub added_are_anew : {T : Type 0} (has : T → Seconds) → AddedAreAnew has
added_are_anew has = record {
  none = λ zones fires. refl;
  past = λ zones fires olds e last old id new noted adds anew.
      anew-added has zones fires olds e (λ z. fires_past (has e.table) z last) old new
      (λ zone. has-past has zones fires olds e last zone noted) anew id adds;
  ended = λ zones fires olds e last old new noted adds anew.
      anew-ended has zones fires olds e (λ z. fires_past (has e.table) z last) old new
      (λ zone. has-past has zones fires olds e last zone noted) anew adds;
  again = λ zones fires olds e all old id new none has_all adds anew.
      anew-added has zones fires olds e all old new
      (λ zone lent. ap (λ o. behind has zones o e) none ∙ has_all zone lent) anew id adds;
}
