-- The nearest match of each of several schedules, from one number on and from a later one.
use Rattle.std.proofs.Common.{◌≡◌, ℕ, ◌+◌, ◌-◌, ◌<◌, ◌≤◌, min, zero, suc, cond, inl, inr, Bool, true, false, ◌||◌, ◌&&◌, nat_lt, ℤ, pos, ◌+ℤ◌, ◌≤ℤ◌, List, [], ◌∷◌, ◌++◌, Option, Some, None, refl, sym, ap, ◌∙◌, subst, length, length-append, take, drop, get_or, slice_set, arith}
use Rattle.std.specs.Prelude.{slice_get, Any, IfSome}
use Rattle.std.specs.List.{refill}
use Rattle.std.proofs.lemmas.List.{drop_all, take-append-drop, take_all, length-drop, length-set, get_or-set_other, get_or-set_same}
use Rattle.std.proofs.lemmas.Bool.{cases_eq, cases_lt}
use Rattle.std.proofs.lemmas.Bool.Decides.{nat_tests}
use Rattle.std.proofs.lemmas.Option.{get_or_from_slice_get, slice_get-get_or, slice_get_read, slice_get_within}
use Rattle.std.proofs.lemmas.Int.{by_lt_z}
use Rattle.jiff_core.proofs.SignedLemmas.{signed_arith}
use Rattle.cron_units.specs.declared.way.Way.TheVariants.{Ahead}
use Rattle.cron_units.specs.Nearest.{IsNearest, IsNearestAt}
use Rattle.cron_units.specs.Sets.{Sets}
use Rattle.cron_moments.specs.Civil.{seconds_in_range}
use Rattle.cron_time.specs.Matches.{is_match}
use Rattle.cron_time.proofs.PlaceLemmas.{slice_get-append, slice_get-left}
use Rattle.cron_time.specs.Seconds.{Seconds}
use Rattle.cron_time.specs.Seconds as sets
use Rattle.cron_time.specs.Timeline.{seconds_of}
use Rattle.cron_unions.specs.Unions.{any_of}
use Rattle.cron_unions.specs.Inner.Heads.{AreHeads, ArePassing, IsHead, IsPassing, match_of}
use Rattle.cron_unions.specs.Nearest.{is_match_any, nearer_second}
use Rattle.cron_unions.specs.declared.heads.Head.{Head}
use Rattle.cron_unions.proofs.NearestLemmas.{nearest-end, nearest-none, nearest-step}
use Rattle.cron_unions.proofs.UnionLemmas.{match-of_any}

-- ---- matches as numbers

pub match-some : (n : ℕ) → n < 4_294_967_295 → match_of n ≡ Some n
match-some n less = grind (arith, nat_tests)

pub match-none : (n : ℕ) → 4_294_967_295 ≤ n → match_of n ≡ None
match-none n le = grind (arith, nat_tests)

match-own : (n k : ℕ) → match_of n ≡ Some k → n ≡ k
match-own n k e =
    elim (cases_lt n 4_294_967_295) [
      | inl less ↦ let is = match-some n less in cc
      | inr le ↦ let is = match-none n le in cc
    ]

nearer-both : (a b c : ℕ) → c ≡ min a b → Some c ≡ nearer_second Ahead (Some a) (Some b)
nearer-both a b c e = by_test (nat_lt b a) refl
  where
    by_test : (v : Bool) → nat_lt b a ≡ v → Some c ≡ cond v (Some b) (Some a)
    by_test true is = ap Some (grind (arith, nat_tests))
    by_test false is = ap Some (grind (arith, nat_tests))

pub match-min : (a b c : ℕ) → c ≡ min a b → match_of c ≡ nearer_second Ahead (match_of a) (match_of b)
match-min a b c e =
    elim (cases_lt a 4_294_967_295) [
      | inl a_less ↦ elim (cases_lt b 4_294_967_295) [
        | inl b_less ↦ rw (match-some a a_less, match-some b b_less, match-some c (omega arith)) (nearer-both a b c e)
        | inr b_none ↦ rw (match-some a a_less, match-none b b_none, match-some c (omega arith)) (ap Some (omega arith))
      ]
      | inr a_none ↦ elim (cases_lt b 4_294_967_295) [
        | inl b_less ↦ rw (match-none a a_none, match-some b b_less, match-some c (omega arith)) (ap Some (omega arith))
        | inr b_none ↦ rw (match-none a a_none, match-none b b_none, match-none c (omega arith)) refl
      ]
    ]

-- ---- the heads are made

no_head : (i : ℕ) (h : Head) → slice_get [] i ≡ Some h → ⊥
no_head i h e = let within = slice_get_within [] i h e in omega arith

pub heads-none : (ss : List Sets) (from : ℤ) → AreHeads ss from []
heads-none ss from = record { few = omega arith; each = λ i s h one two. absurd (no_head i h two) }

head_at_end : (hs : List Head) (h g : Head) (i : ℕ) → i ≡ length hs → slice_get (hs ++ h ∷ []) i ≡ Some g → g ≡ h
head_at_end hs h g i e get =
    let at : slice_get (hs ++ h ∷ []) (length hs + 0) ≡ Some h = slice_get-append hs (h ∷ []) 0 in
    let same : i ≡ length hs + 0 = omega arith in
    let here : slice_get (hs ++ h ∷ []) (length hs + 0) ≡ Some g = subst (λ (k : ℕ). slice_get (hs ++ h ∷ []) k ≡ Some g) same get in
    cc

sets_at : (ss : List Sets) (s t : Sets) (i n : ℕ) → i ≡ n → n < length ss → s ≡ get_or ss n s → slice_get ss i ≡ Some t → t ≡ s
sets_at ss s t i n e less is get =
    let at : slice_get ss n ≡ Some s = slice_get_read ss (length ss) n s refl less is in
    let here : slice_get ss n ≡ Some t = subst (λ (k : ℕ). slice_get ss k ≡ Some t) e get in
    cc

head_by_place : (ss : List Sets) (from : ℤ) (hs : List Head) (s : Sets) (h : Head) → AreHeads ss from hs → length hs < length ss
    → s ≡ get_or ss (length hs) s → IsHead s from h
    → (i : ℕ) (t : Sets) (g : Head) → slice_get ss i ≡ Some t → slice_get (hs ++ h ∷ []) i ≡ Some g → IsHead t from g
head_by_place ss from hs s h heads less is head i t g at_s at_h =
    by_lt_z (pos i) (pos (length hs))
    (λ early. heads.each i t g at_s (sym (slice_get-left hs (h ∷ []) i (omega (arith, signed_arith))) ∙ at_h))
    (λ late. let within : i < length (hs ++ h ∷ []) = slice_get_within (hs ++ h ∷ []) i g at_h in
    let last : i ≡ length hs = omega (arith, signed_arith, length-append hs (h ∷ [])) in
    subst (λ (x : Head). IsHead t from x) (sym (head_at_end hs h g i last at_h))
    (subst (λ (x : Sets). IsHead x from h) (sym (sets_at ss s t i (length hs) last less is at_s)) head))

pub heads-more : (ss : List Sets) (from : ℤ) (hs : List Head) (s : Sets) (h : Head) → AreHeads ss from hs → length hs < length ss
    → s ≡ get_or ss (length hs) s → IsHead s from h → AreHeads ss from (hs ++ h ∷ [])
heads-more ss from hs s h heads less is head = record {
  few = omega (arith, length-append hs (h ∷ []));
  each = head_by_place ss from hs s h heads less is head;
}

-- ---- the least of them

pub least-more : (ss : List Sets) (from : ℤ) (hs : List Head) (i : ℕ) (h : Head) (a c : Option ℕ) → AreHeads ss from hs → i < length hs
    → h ≡ get_or hs i h → c ≡ nearer_second Ahead a (match_of h.next) → IsNearest Ahead (is_match_any (take i ss)) from a
    → IsNearest Ahead (is_match_any (take (i + 1) ss)) from c
least-more ss from hs i h a c heads less is e first =
    let few = heads.few in
    let room : i < length ss = omega arith in
    with_sets (slice_get_at ss i room)
  where
    slice_get_at : (xs : List Sets) (k : ℕ) → k < length xs → (s : Sets) × (slice_get xs k ≡ Some s)
    slice_get_at [] k l = absurd (omega arith)
    slice_get_at (x ∷ xs) k l = (get_or (x ∷ xs) k x, slice_get-get_or (x ∷ xs) k x l)

    with_sets : (s : Sets) × (slice_get ss i ≡ Some s) → IsNearest Ahead (is_match_any (take (i + 1) ss)) from c
    with_sets both =
        let few = heads.few in
        let at_h : slice_get hs i ≡ Some h = slice_get_read hs (length hs) i h refl less is in
        let head = heads.each i both.0 h both.1 at_h in
        nearest-step seconds_of Ahead from ss i both.0 a (match_of h.next) c (omega arith) (sym (get_or_from_slice_get ss i both.0 both.0 both.1)) e first head.nearest

-- ---- they go on

-- up to a civil second that isn't past it, the nearest stays
pub nearest-up : (m : ℕ → Bool) (from to : ℤ) (next : Option ℕ) → from ≤ℤ to → IfSome next (λ n. to ≤ℤ pos n) → IsNearest Ahead m from next
    → IsNearest Ahead m to next
nearest-up m from to None le short none = λ k lies. none k (omega (arith, signed_arith))
nearest-up m from to (Some n) le short near = record {
  passes = near.passes;
  lies = short;
  nearest = λ k lies before. near.nearest k (omega (arith, signed_arith)) before;
}

other_next : (second : ℕ) (n : ℕ) → (Some n ≡ Some second → ⊥) → pos second ≤ℤ pos n → (pos second +ℤ pos 1) ≤ℤ pos n
other_next second n other le =
    by_lt_z (pos second) (pos n)
    (λ less. omega (arith, signed_arith))
    (λ ge. let same : n ≡ second = omega (arith, signed_arith) in absurd (other (ap Some same)))

pub head-kept : (s : Sets) (second : ℕ) (h : Head) → (h.next ≡ second → ⊥) → IsHead s (pos second) h → IsHead s (pos second +ℤ pos 1) h
head-kept s second h other head = record {
  nearest = nearest-up (is_match s) (pos second) (pos second +ℤ pos 1) (match_of h.next) (omega (arith, signed_arith))
      (short (match_of h.next) (λ e. other (match-own h.next second e)) head.nearest) head.nearest;
  days = head.days;
}
  where
    short : (next : Option ℕ) → (next ≡ Some second → ⊥) → IsNearest Ahead (is_match s) (pos second) next → IfSome next (λ n. (pos second +ℤ pos 1) ≤ℤ pos n)
    short None other none = tt
    short (Some n) other near = other_next second n other near.lies

pub head-match : (s : Sets) (second : ℕ) (next : Option ℕ) → next ≡ Some second → IsNearest Ahead (is_match s) (pos second) next → is_match s second ≡ true
head-match s second next e near = (subst (λ (o : Option ℕ). IsNearest Ahead (is_match s) (pos second) o) e near).passes

-- a head isn't before the nearest of all
head_short : (ss : List Sets) (from : ℤ) (second i : ℕ) (s : Sets) (next : Option ℕ) → IsNearestAt Ahead (is_match_any ss) from second
    → slice_get ss i ≡ Some s → IsNearest Ahead (is_match s) from next → IfSome next (λ n. pos second ≤ℤ pos n)
head_short ss from second i s None near at none = tt
head_short ss from second i s (Some n) near at own =
    by_lt_z (pos n) (pos second)
    (λ less. let one : Any (λ t. is_match t n ≡ true) ss = (i, s, slice_get_within ss i s at, get_or_from_slice_get ss i s s at, own.passes) in
    let match = match-of_any ss n one in
    let none = near.nearest n own.lies (omega (arith, signed_arith)) in cc)
    (λ le. le)

pub heads-up : (ss : List Sets) (from : ℤ) (hs : List Head) (second : ℕ) → IsNearestAt Ahead (is_match_any ss) from second → AreHeads ss from hs
    → AreHeads ss (pos second) hs
heads-up ss from hs second near heads = record {
  few = heads.few;
  each = λ i s h at_s at_h.
      let head = heads.each i s h at_s at_h in
      record {
        nearest = nearest-up (is_match s) from (pos second) (match_of h.next) near.lies (head_short ss from second i s (match_of h.next) near at_s head.nearest) head.nearest;
        days = head.days;
      };
}

-- ---- some lie at a civil second, and some are past it

pub passing-of : (ss : List Sets) (second : ℕ) (hs : List Head) → AreHeads ss (pos second) hs → ArePassing ss second hs
passing-of ss second hs heads = record {
  few = heads.few;
  each = λ i s h at_s at_h.
      let head = heads.each i s h at_s at_h in
      record { there = λ e. head; past = λ other. head-kept s second h other head };
}

pub passing-done : (ss : List Sets) (second : ℕ) (hs : List Head) → ArePassing ss second hs
    → ((i : ℕ) (h : Head) → slice_get hs i ≡ Some h → h.next ≡ second → ⊥) → AreHeads ss (pos second +ℤ pos 1) hs
passing-done ss second hs passing clear = record {
  few = passing.few;
  each = λ i s h at_s at_h. (passing.each i s h at_s at_h).past (clear i h at_h);
}

-- a head past a civil second doesn't lie there
head-past : (s : Sets) (second : ℕ) (h : Head) → second < seconds_in_range → IsHead s (pos second +ℤ pos 1) h → h.next ≡ second → ⊥
head-past s second h range head e =
    let is : match_of h.next ≡ Some second = ap match_of e ∙ match-some second (omega arith) in
    let near = subst (λ (o : Option ℕ). IsNearest Ahead (is_match s) (pos second +ℤ pos 1) o) is head.nearest in
    let lies = near.lies in omega (arith, signed_arith)

-- nor before it
head-up : (s : Sets) (second : ℕ) (h : Head) → second < seconds_in_range → (from : ℤ) → pos second ≤ℤ from → IsHead s from h → second ≤ h.next
head-up s second h range from le head =
    elim (cases_lt h.next 4_294_967_295) [
      | inl less ↦
          let near = subst (λ (o : Option ℕ). IsNearest Ahead (is_match s) from o) (match-some h.next less) head.nearest in
          let lies = near.lies in omega (arith, signed_arith)
      | inr none ↦ omega arith
    ]

passing-up : (s : Sets) (second : ℕ) (h : Head) → second < seconds_in_range → IsPassing s second h → second ≤ h.next
passing-up s second h range passing =
    elim (cases_eq h.next second) [
      | inl e ↦ omega arith
      | inr other ↦ head-up s second h range (pos second +ℤ pos 1) (omega (arith, signed_arith)) (passing.past other)
    ]

-- the first so many have gone on past a civil second
pub record ArePassed (ss : List Sets) (second n : ℕ) (hs : List Head) : Type 0 where
  pub few : length hs ≤ length ss
  pub past : (i : ℕ) (s : Sets) (h : Head) → i < n → slice_get ss i ≡ Some s → slice_get hs i ≡ Some h → IsHead s (pos second +ℤ pos 1) h
  pub left : (i : ℕ) (s : Sets) (h : Head) → n ≤ i → slice_get ss i ≡ Some s → slice_get hs i ≡ Some h → IsPassing s second h

pub passed-none : (ss : List Sets) (second : ℕ) (hs : List Head) → ArePassing ss second hs → ArePassed ss second 0 hs
passed-none ss second hs passing = record {
  few = passing.few;
  past = λ i s h less at_s at_h. absurd (omega arith);
  left = λ i s h le at_s at_h. passing.each i s h at_s at_h;
}

pub passed-all : (ss : List Sets) (second n : ℕ) (hs : List Head) → length hs ≤ n → ArePassed ss second n hs → AreHeads ss (pos second +ℤ pos 1) hs
passed-all ss second n hs whole passed = record {
  few = passed.few;
  each = λ i s h at_s at_h. passed.past i s h (let within = slice_get_within hs i h at_h in omega arith) at_s at_h;
}

-- the one that a loop has come to
pub passed-next : (ss : List Sets) (second n : ℕ) (hs : List Head) (s : Sets) (h : Head) → ArePassed ss second n hs → n < length hs
    → s ≡ get_or ss n s → h ≡ get_or hs n h → IsPassing s second h
passed-next ss second n hs s h passed room is own =
    let few = passed.few in
    passed.left n s h (omega arith) (slice_get_read ss (length ss) n s refl (omega arith) is) (slice_get_read hs (length hs) n h refl room own)

head_set : (hs : List Head) (n i : ℕ) (x h : Head) → n < length hs → i ≡ n → slice_get (slice_set hs n x) i ≡ Some h → h ≡ x
head_set hs n i x h room e get =
    let here : slice_get (slice_set hs n x) n ≡ Some h = subst (λ (k : ℕ). slice_get (slice_set hs n x) k ≡ Some h) e get in
    sym (get_or_from_slice_get (slice_set hs n x) n h h here) ∙ get_or-set_same hs n x h room

head_kept_at : (hs : List Head) (n i : ℕ) (x h : Head) → (i ≡ n → ⊥) → slice_get (slice_set hs n x) i ≡ Some h → slice_get hs i ≡ Some h
head_kept_at hs n i x h other get =
    let within = slice_get_within (slice_set hs n x) i h get in
    let is = get_or_from_slice_get (slice_set hs n x) i h h get in
    let was = get_or-set_other hs n i x h other in
    slice_get-get_or hs i h (omega (arith, length-set hs n x)) ∙ ap Some (sym was ∙ is)

pub passed-more : (ss : List Sets) (second n : ℕ) (hs : List Head) (s : Sets) (x : Head) → ArePassed ss second n hs → n < length hs
    → s ≡ get_or ss n s → IsHead s (pos second +ℤ pos 1) x → ArePassed ss second (n + 1) (slice_set hs n x)
passed-more ss second n hs s x passing room is head = record {
  few = let few = passing.few in omega (arith, length-set hs n x);
  past = λ i t h less at_s at_h.
      by_lt_z (pos i) (pos n)
      (λ early. passing.past i t h (omega (arith, signed_arith)) at_s (head_kept_at hs n i x h (λ e. omega (arith, signed_arith)) at_h))
      (λ late. let here : i ≡ n = omega (arith, signed_arith) in
      let few = passing.few in
      subst (λ (g : Head). IsHead t (pos second +ℤ pos 1) g) (sym (head_set hs n i x h room here at_h))
      (subst (λ (u : Sets). IsHead u (pos second +ℤ pos 1) x) (sym (sets_at ss s t i n here (omega arith) is at_s)) head));
  left = λ i t h le at_s at_h. passing.left i t h (omega arith) at_s (head_kept_at hs n i x h (λ e. omega arith) at_h);
}

-- ---- of two one goes on

pub passing-set : (ss : List Sets) (second n : ℕ) (hs : List Head) (s : Sets) (x : Head) → second < seconds_in_range → ArePassing ss second hs
    → n < length hs → s ≡ get_or ss n s → IsHead s (pos second +ℤ pos 1) x → ArePassing ss second (slice_set hs n x)
passing-set ss second n hs s x range passing room is head = record {
  few = let few = passing.few in omega (arith, length-set hs n x);
  each = λ i t h at_s at_h.
      elim (cases_eq i n) [
        | inl here ↦
            let few = passing.few in
            let own = subst (λ (u : Sets). IsHead u (pos second +ℤ pos 1) x) (sym (sets_at ss s t i n here (omega arith) is at_s)) head in
            subst (λ (g : Head). IsPassing t second g) (sym (head_set hs n i x h room here at_h))
            (record { there = λ e. absurd (head-past t second x range own e); past = λ other. own })
        | inr other ↦ passing.each i t h at_s (head_kept_at hs n i x h other at_h)
      ];
}

pub passing-at : (ss : List Sets) (second n : ℕ) (hs : List Head) (s : Sets) (h : Head) → ArePassing ss second hs → n < length hs
    → s ≡ get_or ss n s → h ≡ get_or hs n h → IsPassing s second h
passing-at ss second n hs s h passing room is own =
    let few = passing.few in
    passing.each n s h (slice_get_read ss (length ss) n s refl (omega arith) is) (slice_get_read hs (length hs) n h refl room own)

two_clear : (a b c second : ℕ) → second ≤ a → second ≤ b → c ≡ min a b → (c ≡ second → ⊥) → (a ≡ second → ⊥) × (b ≡ second → ⊥)
two_clear a b c second a_up b_up e other = (λ is. other (omega arith), λ is. other (omega arith))

-- where the lesser of two doesn't lie at a civil second, both are past it
pub pair-done : (ss : List Sets) (second c : ℕ) (hs : List Head) (a b : Head) → second < seconds_in_range → ArePassing ss second hs
    → length ss ≡ 2 → length hs ≡ 2 → a ≡ get_or hs 0 a → b ≡ get_or hs 1 b → c ≡ min a.next b.next → (c ≡ second → ⊥)
    → AreHeads ss (pos second +ℤ pos 1) hs
pair-done (s ∷ t ∷ []) second c (g ∷ h ∷ []) a b range passing long size is_a is_b e other =
    let up_g = passing-up s second g range (passing.each 0 s g refl refl) in
    let up_h = passing-up t second h range (passing.each 1 t h refl refl) in
    let least : c ≡ min g.next h.next = e ∙ ap (λ v. min v b.next) (ap (λ (x : Head). x.next) is_a) ∙ ap (λ v. min g.next v) (ap (λ (x : Head). x.next) is_b) in
    let clear = two_clear g.next h.next c second up_g up_h least other in
    passing-done (s ∷ t ∷ []) second (g ∷ h ∷ []) passing (by_place clear)
  where
    by_place : (g.next ≡ second → ⊥) × (h.next ≡ second → ⊥) → (i : ℕ) (x : Head) → slice_get (g ∷ h ∷ []) i ≡ Some x → x.next ≡ second → ⊥
    by_place clear zero x get is = clear.0 (let same : g ≡ x = cc in ap (λ (y : Head). y.next) same ∙ is)
    by_place clear (suc zero) x get is = clear.1 (let same : h ≡ x = cc in ap (λ (y : Head). y.next) same ∙ is)
    by_place clear (suc (suc i)) x get is = cc
pair-done [] second c hs a b range passing long size is_a is_b e other = absurd (omega arith)
pair-done (s ∷ []) second c hs a b range passing long size is_a is_b e other = absurd (omega arith)
pair-done (s ∷ t ∷ u ∷ ss) second c hs a b range passing long size is_a is_b e other = absurd (omega arith)
pair-done (s ∷ t ∷ []) second c [] a b range passing long size is_a is_b e other = absurd (omega arith)
pair-done (s ∷ t ∷ []) second c (g ∷ []) a b range passing long size is_a is_b e other = absurd (omega arith)
pair-done (s ∷ t ∷ []) second c (g ∷ h ∷ x ∷ hs) a b range passing long size is_a is_b e other = absurd (omega arith)

-- the lesser of two is the nearest of all
pub pair-least : (ss : List Sets) (from : ℤ) (c : ℕ) (hs : List Head) (a b : Head) → AreHeads ss from hs
    → length ss ≡ 2 → length hs ≡ 2 → a ≡ get_or hs 0 a → b ≡ get_or hs 1 b → c ≡ min a.next b.next
    → IsNearest Ahead (is_match_any ss) from (match_of c)
pair-least ss from c hs a b heads long size is_a is_b e =
    let one : IsNearest Ahead (is_match_any (take 1 ss)) from (match_of a.next) =
    least-more ss from hs 0 a None (match_of a.next) heads (omega arith) is_a refl (nearest-none seconds_of Ahead from) in
    let two : IsNearest Ahead (is_match_any (take 2 ss)) from (match_of c) =
    least-more ss from hs 1 b (match_of a.next) (match_of c) heads (omega arith) is_b (match-min a.next b.next c e) one in
    nearest-end seconds_of Ahead from ss 2 (match_of c) (sym long) two

-- ---- a list written over

take_whole : {X : Type 0} (ws : List X) → take (length ws) (ws ++ []) ≡ ws
take_whole [] = refl
take_whole (w ∷ ws) = ap (λ l. w ∷ l) (take_whole ws)

drop_whole : {X : Type 0} (xs : List X) (n : ℕ) → n ≡ length xs → drop n xs ≡ []
drop_whole xs n e = drop_all n xs (omega arith)

pub refill_whole : {X : Type 0} (xs ws : List X) → length ws ≡ length xs → refill (length xs) xs ws ≡ ws
refill_whole xs ws e = ap (λ l. take (length xs) (ws ++ l)) (drop_whole xs (length ws) e) ∙ ap (λ n. take n (ws ++ [])) (sym e) ∙ take_whole ws

-- ---- where a search has come to

-- the heads stand at the nearest match that they have come to
pub heads-come : (ss : List Sets) (second next : ℕ) (hs : List Head) → AreHeads ss (pos second +ℤ pos 1) hs
    → IsNearest Ahead (is_match_any ss) (pos second +ℤ pos 1) (match_of next) → next < seconds_in_range → AreHeads ss (pos next) hs
heads-come ss second next hs heads near high =
    let found = subst (λ (o : Option ℕ). IsNearest Ahead (is_match_any ss) (pos second +ℤ pos 1) o) (match-some next (omega arith)) near in
    heads-up ss (pos second +ℤ pos 1) hs next found heads

-- what the schedules that are kept match is what the union matches
pub nearest-kept : (ss kept : List Sets) (from : ℤ) (o : Option ℕ) → any_of kept ≡ any_of ss → IsNearest Ahead (is_match_any kept) from o
    → IsNearest Ahead (is_match_any ss) from o
nearest-kept ss kept from o same near = subst (λ (set : Seconds). IsNearest Ahead (sets.is_match set) from o) same near

pub told : (m : ℕ → Bool) (from : ℤ) (next : ℕ) → next < 4_294_967_295 → IsNearest Ahead m from (match_of next) → IsNearest Ahead m from (Some next)
told m from next less near = subst (λ (o : Option ℕ). IsNearest Ahead m from o) (match-some next less) near

pub told_none : (m : ℕ → Bool) (from : ℤ) (next : ℕ) → next ≡ 4_294_967_295 → IsNearest Ahead m from (match_of next) → IsNearest Ahead m from None
told_none m from next same near = subst (λ (o : Option ℕ). IsNearest Ahead m from o) (ap match_of same) near
