-- Fires of entries in their order.
use Rattle.std.proofs.Common.{◌≡◌, ℕ, zero, suc, ◌<◌, ℤ, int_lt, ◌≤ℤ◌, ◌<ℤ◌, Bool, true, false, cond, ◌&&◌, ◌||◌, List, [], ◌∷◌, ◌++◌, Option, Some, None, inl, inr, refl, sym, ap, subst, ◌∙◌, arith}
use Rattle.std.specs.Prelude.{Result, Ok, Err, nat_lt, not, slice_get, ◌==◌}
use Rattle.std.specs.List.Sorted.{IsPermutation}
use Rattle.std.specs.Ordering.{int_eq}
use Rattle.std.proofs.lemmas.Grind.{flat_map-append}
use Rattle.std.proofs.lemmas.Int.{ints, by_lt_z}
use Rattle.std.proofs.lemmas.List.Sorted.{IsPermutation-refl, IsPermutation-cons, IsPermutation-middle, IsPermutation-sym, IsPermutation-trans}
use Rattle.jiff_core.proofs.SignedLemmas.{signed_arith}
use Rattle.jiff_tz.specs.declared.timezone.TimeZone.{TimeZone}
use Rattle.cron_time.specs.Seconds.{Seconds}
use Rattle.cron_instants.specs.Order.{comes_before}
use Rattle.cron_instants.proofs.OrderLemmas.{before-true}
use Rattle.cron_seconds.specs.Rules.{IsFirstOf}
use Rattle.cron_agenda.specs.declared.entry.Entry.{Entry}
use Rattle.cron_agenda.specs.declared.error.AddError.{AddError}
use Rattle.cron_agenda.specs.declared.fire.AgendaFire.{AgendaFire}
use Rattle.cron_agenda.specs.declared.fire.EntryFire.{EntryFire}
use Rattle.cron_agenda.specs.Entries.{Adds, IsBeforeAll, IsTaken, Listed, entry, gone_on, without}
use Rattle.cron_agenda.specs.Fires.{civil_second, fires_past, instant}
use Rattle.cron_agenda.specs.Laws.{EntriesAscend, MergedHasTheFires, MergedIsInOrder, OneEntryIsItsFires, TakenIsTheFirst}
use Rattle.cron_agenda.specs.Merged.{AllAscend, Ascend, IsEarlierThan, OwnFire, all_of, in_order, left, merged, own, owned, precedes, put, rest_in}

-- ---- the order

-- as `precedes`, over plain numbers
abbrev comes : ℤ → ℕ → ℕ → ℤ → ℕ → ℕ → Bool
comes i p c j q d = int_lt i j || (int_eq i j && (nat_lt p q || (p == q && nat_lt c d)))

by_instant : (i : ℤ) (p c : ℕ) (j : ℤ) (q d : ℕ) → i <ℤ j → comes i p c j q d ≡ true
by_instant i p c j q d h = grind (arith, ints)

by_id : (i : ℤ) (p c : ℕ) (j : ℤ) (q d : ℕ) → i ≡ j → p < q → comes i p c j q d ≡ true
by_id i p c j q d e h = grind (arith, ints)

by_second : (i : ℤ) (p c : ℕ) (j : ℤ) (q d : ℕ) → p ≡ q → comes_before i c j d ≡ true → comes i p c j q d ≡ true
by_second i p c j q d e h = grind (arith, ints)

not_back : (i : ℤ) (p c : ℕ) (j : ℤ) (q d : ℕ) → comes i p c j q d ≡ true → comes j q d i p c ≡ false
not_back i p c j q d h = grind (arith, ints)

-- ids in the same order change nothing
same_id : (i : ℤ) (p c : ℕ) (j : ℤ) (d r : ℕ) → comes i r c j r d ≡ comes i p c j p d
same_id i p c j d r = grind (arith, ints)

later_id : (i : ℤ) (p c : ℕ) (j : ℤ) (q d r s : ℕ) → p < q → r < s → comes i r c j s d ≡ comes i p c j q d
later_id i p c j q d r s h g = grind (arith, ints)

pub before-same_id : (p r : ℕ) (f g : EntryFire) → precedes (own r f) (own r g) ≡ precedes (own p f) (own p g)
before-same_id p r f g = same_id (instant f) p (civil_second f) (instant g) (civil_second g) r

pub before-later_id : (p q r s : ℕ) (f g : EntryFire) → p < q → r < s → precedes (own r f) (own s g) ≡ precedes (own p f) (own q g)
before-later_id p q r s f g h k = later_id (instant f) p (civil_second f) (instant g) q (civil_second g) r s h k

pub before-instant : (a b : OwnFire) → instant a.fire <ℤ instant b.fire → precedes a b ≡ true
before-instant a b h = by_instant (instant a.fire) a.id (civil_second a.fire) (instant b.fire) b.id (civil_second b.fire) h

pub before-id : (a b : OwnFire) → instant a.fire ≡ instant b.fire → a.id < b.id → precedes a b ≡ true
before-id a b e h = by_id (instant a.fire) a.id (civil_second a.fire) (instant b.fire) b.id (civil_second b.fire) e h

pub before-second : (a b : OwnFire) → a.id ≡ b.id → comes_before (instant a.fire) (civil_second a.fire) (instant b.fire) (civil_second b.fire) ≡ true → precedes a b ≡ true
before-second a b e h = by_second (instant a.fire) a.id (civil_second a.fire) (instant b.fire) b.id (civil_second b.fire) e h

pub before-not_back : (a b : OwnFire) → precedes a b ≡ true → precedes b a ≡ false
before-not_back a b h = not_back (instant a.fire) a.id (civil_second a.fire) (instant b.fire) b.id (civil_second b.fire) h

-- ---- the first one of a list in order

-- a fire comes before each of these
abbrev pub AllAfter : OwnFire → List OwnFire → Type 0
AllAfter x [] = Unit {0}
AllAfter x (y ∷ l) = (precedes x y ≡ true) × AllAfter x l

pub all_after-append : (x : OwnFire) (a b : List OwnFire) → AllAfter x a → AllAfter x b → AllAfter x (a ++ b)
all_after-append x [] b h g = g
all_after-append x (y ∷ a) b h g = (h.0, all_after-append x a b h.1 g)

all_after-put_by : (x d y : OwnFire) (l rest : List OwnFire) (t : Bool) → precedes d y ≡ t → precedes x d ≡ true → AllAfter x (y ∷ l) → AllAfter x (put d l) → AllAfter x (put d (y ∷ l))
unfolding put
all_after-put_by x d y l rest true is first h below = rw is (first, h)
all_after-put_by x d y l rest false is first h below = rw is (h.0, below)

all_after-put : (x d : OwnFire) (l : List OwnFire) → precedes x d ≡ true → AllAfter x l → AllAfter x (put d l)
unfolding put
all_after-put x d [] first h = (first, tt)
all_after-put x d (y ∷ l) first h = all_after-put_by x d y l l (precedes d y) refl first h (all_after-put x d l first h.1)

all_after-in_order : (x : OwnFire) (l : List OwnFire) → AllAfter x l → AllAfter x (in_order l)
unfolding in_order
all_after-in_order x [] h = tt
all_after-in_order x (d ∷ l) h = all_after-put x d (in_order l) h.0 (all_after-in_order x l h.1)

put-first : (x : OwnFire) (l : List OwnFire) → AllAfter x l → put x l ≡ x ∷ l
unfolding put
put-first x [] h = refl
put-first x (y ∷ l) h = rw h.0 refl

put-behind : (x d : OwnFire) (l : List OwnFire) → precedes x d ≡ true → put d (x ∷ l) ≡ x ∷ put d l
unfolding put
put-behind x d l h = rw (before-not_back x d h) refl

-- one that comes before all the others stands first, and the others stand behind it as without it
pub in_order-first : (x : OwnFire) (a b : List OwnFire) → AllAfter x a → AllAfter x b → in_order (a ++ x ∷ b) ≡ x ∷ in_order (a ++ b)
unfolding in_order
in_order-first x [] b h g = put-first x (in_order b) (all_after-in_order x b g)
in_order-first x (d ∷ a) b h g = ap (put d) (in_order-first x a b h.1 g) ∙ put-behind x d (in_order (a ++ b)) h.0

-- ---- the fires of one entry

not_later : (i : ℤ) (c : ℕ) (j : ℤ) (d : ℕ) → comes_before i c j d ≡ true → i ≤ℤ j
not_later i c j d before = elim (before-true i c j d before) [
  | inl less ↦ omega (arith, signed_arith)
  | inr same ↦ let equal = same.0 in omega (arith, signed_arith)
]

-- a fire comes before one of another entry, and before later ones
ahead_of : (x : OwnFire) (id : ℕ) (q p : EntryFire) → comes_before (instant x.fire) x.id (instant q) id ≡ true → instant q ≤ℤ instant p
    → precedes x (own id p) ≡ true
ahead_of x id q p h le = elim (before-true (instant x.fire) x.id (instant q) id h) [
  | inl less ↦ before-instant x (own id p) (omega (arith, signed_arith))
  | inr same ↦
      let equal = same.0 in
      by_lt_z (instant x.fire) (instant p)
      (λ less. before-instant x (own id p) less)
      (λ ge. before-id x (own id p) (omega (arith, signed_arith)) same.1)
]

ahead_rest : (x : OwnFire) (id : ℕ) (q : EntryFire) (l : List EntryFire) → comes_before (instant x.fire) x.id (instant q) id ≡ true → IsEarlierThan q l
    → AllAfter x (owned id l)
ahead_rest x id q [] h up = tt
ahead_rest x id q (p ∷ l) h up =
    (ahead_of x id q p h (not_later (instant q) (civil_second q) (instant p) (civil_second p) up.0), ahead_rest x id q l h up.1)

-- so before all of another entry
other-after : (x : OwnFire) (id : ℕ) (q : EntryFire) (l : List EntryFire) → Ascend (q ∷ l) → comes_before (instant x.fire) x.id (instant q) id ≡ true
    → AllAfter x (owned id (q ∷ l))
other-after x id q l up h = (ahead_of x id q q h (omega (arith, signed_arith)), ahead_rest x id q l h up.0)

own-after : (id : ℕ) (f : EntryFire) (l : List EntryFire) → IsEarlierThan f l → AllAfter (own id f) (owned id l)
own-after id f [] up = tt
own-after id f (q ∷ l) up = (before-second (own id f) (own id q) refl up.0, own-after id f l up.1)

-- ---- the fires of all entries

module _ {T : Type 0} (has : T → Seconds) (zones : List TimeZone) where
  all-append : (a b : List (Entry T)) → all_of has zones (a ++ b) ≡ all_of has zones a ++ all_of has zones b
  all-append a b = flat_map-append (λ e. owned e.id (left has zones e)) a b

  ascend-before : (a b : List (Entry T)) → AllAscend has zones (a ++ b) → AllAscend has zones a
  ascend-before [] b h = tt
  ascend-before (e ∷ a) b h = (h.0, ascend-before a b h.1)

  ascend-behind : (a b : List (Entry T)) → AllAscend has zones (a ++ b) → AllAscend has zones b
  ascend-behind [] b h = h
  ascend-behind (e ∷ a) b h = ascend-behind a b h.1

  ascend-append : (a b : List (Entry T)) → AllAscend has zones a → AllAscend has zones b → AllAscend has zones (a ++ b)
  ascend-append [] b h g = g
  ascend-append (e ∷ a) b h g = (h.0, ascend-append a b h.1 g)

  all-after : (e : Entry T) (es : List (Entry T)) → AllAscend has zones es → IsBeforeAll e es → AllAfter (own e.id e.fire) (all_of has zones es)
  all-after e [] up h = tt
  all-after e (o ∷ es) up h =
      all_after-append (own e.id e.fire) (owned o.id (left has zones o)) (all_of has zones es)
      (other-after (own e.id e.fire) o.id o.fire (rest_in (has o.table) (slice_get zones o.zone) o.fire) up.0 h.0) (all-after e es up.1 h.1)

  before-parts : (e : Entry T) (a b : List (Entry T)) → IsBeforeAll e (a ++ b) → IsBeforeAll e a × IsBeforeAll e b
  before-parts e [] b h = (tt, h)
  before-parts e (x ∷ a) b h = let rest = before-parts e a b h.1 in ((h.0, rest.0), rest.1)

  module _ (old : List (Entry T)) (taken : AgendaFire) (new : List (Entry T)) (up : AllAscend has zones old) (is : IsTaken has zones old taken new) where
    abbrev e : Entry T
    e = is.entry

    abbrev a : List (Entry T)
    a = is.first.before

    abbrev b : List (Entry T)
    b = is.first.after

    abbrev rest : List EntryFire
    rest = fires_past (has e.table) is.zone e.fire

    up_there : AllAscend has zones (a ++ e ∷ b)
    up_there = subst (AllAscend has zones) is.first.is up

    left_is : left has zones e ≡ e.fire ∷ rest
    left_is = ap (λ z. e.fire ∷ rest_in (has e.table) z e.fire) is.lent

    up_here : Ascend (e.fire ∷ rest)
    up_here = subst Ascend left_is (ascend-behind a (e ∷ b) up_there).0

    gone_is : (next : Option EntryFire) → IsFirstOf rest (fires_past (has e.table) is.zone) next
        → all_of has zones (gone_on e next ++ b) ≡ owned e.id rest ++ all_of has zones b
    gone_is None goes = sym (ap (λ l. owned e.id l ++ all_of has zones b) goes)
    gone_is (Some f) goes =
        ap (λ z. owned e.id (f ∷ rest_in (has e.table) z f) ++ all_of has zones b) is.lent
        ∙ sym (ap (λ l. owned e.id l ++ all_of has zones b) goes)

    ascend_gone : (next : Option EntryFire) → IsFirstOf rest (fires_past (has e.table) is.zone) next → AllAscend has zones (gone_on e next ++ b)
    ascend_gone None goes = (ascend-behind a (e ∷ b) up_there).1
    ascend_gone (Some f) goes = (
      subst (λ z. Ascend (f ∷ rest_in (has e.table) z f)) (sym is.lent) (subst Ascend goes up_here.1),
      (ascend-behind a (e ∷ b) up_there).1,
    )

    all_old : all_of has zones old ≡ all_of has zones a ++ own e.id e.fire ∷ (owned e.id rest ++ all_of has zones b)
    all_old =
        ap (all_of has zones) is.first.is ∙ all-append a (e ∷ b)
        ∙ ap (λ l. all_of has zones a ++ (owned e.id l ++ all_of has zones b)) left_is

    all_new : all_of has zones new ≡ all_of has zones a ++ (owned e.id rest ++ all_of has zones b)
    all_new =
        ap (all_of has zones) is.now ∙ all-append a (gone_on e is.next ++ b)
        ∙ ap (λ l. all_of has zones a ++ l) (gone_is is.next is.goes_on)

    first_is : merged has zones old ≡ own e.id e.fire ∷ merged has zones new
    first_is =
        let parts = before-parts e a b is.first.others in
        ap in_order all_old
        ∙ in_order-first (own e.id e.fire) (all_of has zones a) (owned e.id rest ++ all_of has zones b)
        (all-after e a (ascend-before a (e ∷ b) up_there) parts.0)
        (all_after-append (own e.id e.fire) (owned e.id rest) (all_of has zones b) (own-after e.id e.fire rest up_here.0)
        (all-after e b (ascend-behind a (e ∷ b) up_there).1 parts.1))
        ∙ ap (λ l. own e.id e.fire ∷ in_order l) (sym all_new)

    taken_first : (merged has zones old ≡ own taken.id taken.fire ∷ merged has zones new) × AllAscend has zones new
    taken_first = (
      first_is ∙ ap (λ (t : AgendaFire). own t.id t.fire ∷ merged has zones new) (sym is.is),
      subst (AllAscend has zones) (sym is.now)
          (ascend-append a (gone_on e is.next ++ b) (ascend-before a (e ∷ b) up_there) (ascend_gone is.next is.goes_on)),
    )

pub taken_is_first : {T : Type 0} (has : T → Seconds) → TakenIsTheFirst has
taken_is_first has zones old taken new up is = taken_first has zones old taken new up is

-- ---- with one entry more, and with one less

module _ {T : Type 0} (has : T → Seconds) (zones : List TimeZone) where
  more_ascend : (table : T) (zone : ℕ) (fires : TimeZone → List EntryFire) (old : Listed T) (answer : Result ℕ AddError) (new : Listed T)
      → ((z : TimeZone) → Ascend (fires z)) → Adds has zones table zone fires old answer new → AllAscend has zones old.entries
      → AllAscend has zones new.entries
  more_ascend table zone fires old (Ok id) new up adds was =
      let z = adds.0 in
      let fire = adds.1 in
      let here : Ascend (fire ∷ rest_in (has table) (slice_get zones zone) fire) =
      subst (λ o. Ascend (fire ∷ rest_in (has table) o fire)) (sym adds.2) (subst Ascend adds.3 (up z)) in
      subst (λ (l : Listed T). AllAscend has zones l.entries) (sym adds.5)
      (ascend-append has zones old.entries (entry id table zone fire ∷ []) was (here, tt))
  more_ascend table zone fires old (Err why) new up adds was = subst (λ (l : Listed T). AllAscend has zones l.entries) (sym adds.1) was

  less_by : (e : Entry T) (es : List (Entry T)) (id : ℕ) (b : Bool) → Ascend (left has zones e) → AllAscend has zones (without id es)
      → AllAscend has zones (cond b (e ∷ without id es) (without id es))
  less_by e es id true up h = (up, h)
  less_by e es id false up h = h

  less_ascend : (id : ℕ) (es : List (Entry T)) → AllAscend has zones es → AllAscend has zones (without id es)
  less_ascend id [] up = tt
  less_ascend id (e ∷ es) up = less_by e es id (not (e.id == id)) up.0 (less_ascend id es up.1)

  pub entries_ascend : EntriesAscend has zones
  entries_ascend = record { none = tt; more = more_ascend; less = less_ascend }

-- ---- in order

through : (i j k : ℤ) (p q r c d e : ℕ) → comes i p c j q d ≡ true → comes k r e j q d ≡ false → comes k r e i p c ≡ false
through i j k p q r c d e h g = grind (arith, ints)

-- none of these comes before a fire
abbrev NoneBefore : OwnFire → List OwnFire → Type 0
NoneBefore x [] = Unit {0}
NoneBefore x (y ∷ l) = (precedes y x ≡ false) × NoneBefore x l

abbrev InOrder : List OwnFire → Type 0
InOrder [] = Unit {0}
InOrder (x ∷ l) = NoneBefore x l × InOrder l

none_through : (d y : OwnFire) (l : List OwnFire) → precedes d y ≡ true → NoneBefore y l → NoneBefore d l
none_through d y [] h g = tt
none_through d y (z ∷ l) h g =
    (through (instant d.fire) (instant y.fire) (instant z.fire) d.id y.id z.id (civil_second d.fire) (civil_second y.fire) (civil_second z.fire) h g.0, none_through d y l h g.1)

none_put-by : (x d y : OwnFire) (l : List OwnFire) (t : Bool) → precedes d y ≡ t → precedes d x ≡ false → NoneBefore x (y ∷ l) → NoneBefore x (put d l) → NoneBefore x (put d (y ∷ l))
unfolding put
none_put-by x d y l true is first h below = rw is (first, h)
none_put-by x d y l false is first h below = rw is (h.0, below)

none_put : (x d : OwnFire) (l : List OwnFire) → precedes d x ≡ false → NoneBefore x l → NoneBefore x (put d l)
unfolding put
none_put x d [] first h = (first, tt)
none_put x d (y ∷ l) first h = none_put-by x d y l (precedes d y) refl first h (none_put x d l first h.1)

in_order_put-by : (d y : OwnFire) (l : List OwnFire) (t : Bool) → precedes d y ≡ t → InOrder (y ∷ l) → InOrder (put d l) → InOrder (put d (y ∷ l))
unfolding put
in_order_put-by d y l true is h below = rw is ((before-not_back d y is, none_through d y l is h.0), h)
in_order_put-by d y l false is h below = rw is (none_put y d l is h.0, below)

in_order_put : (d : OwnFire) (l : List OwnFire) → InOrder l → InOrder (put d l)
unfolding put
in_order_put d [] h = (tt, tt)
in_order_put d (y ∷ l) h = in_order_put-by d y l (precedes d y) refl h (in_order_put d l h.1)

in_order-is : (l : List OwnFire) → InOrder (in_order l)
unfolding in_order
in_order-is [] = tt
in_order-is (d ∷ l) = in_order_put d (in_order l) (in_order-is l)

none_at : (x : OwnFire) (l : List OwnFire) (j : ℕ) (b : OwnFire) → NoneBefore x l → slice_get l j ≡ Some b → precedes b x ≡ false
none_at x [] zero b h e = cc
none_at x [] (suc j) b h e = cc
none_at x (y ∷ l) zero b h e = let same : y ≡ b = cc in subst (λ v. precedes v x ≡ false) same h.0
none_at x (y ∷ l) (suc j) b h e = none_at x l j b h.1 e

in_order_at : (l : List OwnFire) (i j : ℕ) (a b : OwnFire) → InOrder l → i < j → slice_get l i ≡ Some a → slice_get l j ≡ Some b → precedes b a ≡ false
in_order_at [] zero j a b h less e f = cc
in_order_at [] (suc i) j a b h less e f = cc
in_order_at (x ∷ l) i zero a b h less e f = absurd (omega arith)
in_order_at (x ∷ l) zero (suc j) a b h less e f = let same : x ≡ a = cc in subst (λ v. precedes b v ≡ false) same (none_at x l j b h.0 f)
in_order_at (x ∷ l) (suc i) (suc j) a b h less e f = in_order_at l i j a b h.1 (omega arith) e f

pub stand_in_order : {T : Type 0} (has : T → Seconds) → MergedIsInOrder has
stand_in_order has zones es i j a b less e f =
    in_order_at (merged has zones es) i j a b (in_order-is (all_of has zones es)) less e f

-- ---- the fires of the entries

put_permutes-by : (d y : OwnFire) (l : List OwnFire) (t : Bool) → precedes d y ≡ t → IsPermutation (d ∷ l) (put d l) → IsPermutation (d ∷ y ∷ l) (put d (y ∷ l))
unfolding put
put_permutes-by d y l true is below = rw is (IsPermutation-refl (d ∷ y ∷ l))
put_permutes-by d y l false is below =
    rw is (IsPermutation-trans (d ∷ y ∷ l) (y ∷ d ∷ l) (y ∷ put d l)
    (IsPermutation-sym (y ∷ d ∷ l) (d ∷ y ∷ l) (IsPermutation-middle (y ∷ []) d l)) (IsPermutation-cons y (d ∷ l) (put d l) below))

put_permutes : (d : OwnFire) (l : List OwnFire) → IsPermutation (d ∷ l) (put d l)
unfolding put
put_permutes d [] = IsPermutation-refl (d ∷ [])
put_permutes d (y ∷ l) = put_permutes-by d y l (precedes d y) refl (put_permutes d l)

order_permutes : (l : List OwnFire) → IsPermutation l (in_order l)
unfolding in_order
order_permutes [] = IsPermutation-refl []
order_permutes (d ∷ l) =
    IsPermutation-trans (d ∷ l) (d ∷ in_order l) (put d (in_order l)) (IsPermutation-cons d l (in_order l) (order_permutes l)) (put_permutes d (in_order l))

pub are_the_fires : {T : Type 0} (has : T → Seconds) → MergedHasTheFires has
are_the_fires has zones es = order_permutes (all_of has zones es)

-- ---- one entry

one_in_order : (id : ℕ) (l : List EntryFire) → Ascend l → in_order (owned id l) ≡ owned id l
unfolding in_order
one_in_order id [] up = refl
one_in_order id (f ∷ l) up = in_order-first (own id f) [] (owned id l) tt (own-after id f l up.0) ∙ ap (λ m. own id f ∷ m) (one_in_order id l up.1)

alone : (l : List OwnFire) → l ++ [] ≡ l
alone [] = refl
alone (d ∷ l) = ap (λ m. d ∷ m) (alone l)

pub one_is_its_fires : {T : Type 0} (has : T → Seconds) → OneEntryIsItsFires has
one_is_its_fires has zones e up = ap in_order (alone (owned e.id (left has zones e))) ∙ one_in_order e.id (left has zones e) up
