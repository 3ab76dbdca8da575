-- Ranges of ascending numbers, as a loop finds them.
use Rattle.std.proofs.Common.{◌≡◌, ◌+◌, ◌≤◌, ℕ, Bool, true, false, ◌||◌, ◌&&◌, nat_eq, nat_le, List, [], ◌∷◌, ◌++◌, length, refl, sym, ap, ◌∙◌, append_assoc, append-nil, arith}
use Rattle.std.proofs.Math.Bool.{or_assoc}
use Rattle.std.proofs.lemmas.Bool.{eq-eqb}
use Rattle.std.proofs.lemmas.Bool.Decides.{nat_tests}
use Rattle.std.proofs.lemmas.List.{flat_map_more, length-append}
use Rattle.std.proofs.lemmas.List.Folds.{list_any-append}
use Rattle.std.specs.List.{AllByRecursion, flat_map, list_any}
use Rattle.cron_units.specs.Units.{contains}
use Rattle.cron_oncalendar.specs.Calendars.{lies_in}
use Rattle.cron_oncalendar.specs.Inner.Written.{range_text, ranges_text, IsRangeOf, AreRangesText, Pushes}
use Rattle.cron_oncalendar.specs.declared.components.Spelling.{Spelling}

abbrev closed_text : Spelling → ℕ × ℕ → List ℕ
closed_text w r = range_text w r ++ 44 ∷ []

-- ranges that were pushed, each with its comma, and one that may go on
pub record AreOpen (w : Spelling) (before text : List ℕ) (first last : ℕ) (all rest : List ℕ) : Type 0 where
  closed : List (ℕ × ℕ)
  pushed : text ≡ before ++ flat_map (closed_text w) closed
  each : AllByRecursion (IsRangeOf all) closed
  final : IsRangeOf all (first, last)
  same : (x : ℕ) → (list_any (lies_in x) closed || (lies_in x (first, last) || contains rest x)) ≡ contains all x
  few : length closed + 1 + length rest ≤ length all

one_has : (n x : ℕ) → (nat_le n x && nat_le x n) ≡ nat_eq x n
one_has n x = grind (arith, nat_tests)

longer_has : (a b n x : ℕ) → a ≤ b → b + 1 ≡ n → (nat_le a x && nat_le x n) ≡ ((nat_le a x && nat_le x b) || nat_eq x n)
longer_has a b n x l e = grind (arith, nat_tests)

or_later : (a b : Bool) → b ≡ true → (a || b) ≡ true
or_later true b e = refl
or_later false b e = e

or_first : (a b : Bool) → a ≡ true → (a || b) ≡ true
or_first a b e = rw e refl

pub opened : (w : Spelling) (text : List ℕ) (start : ℕ) (rest : List ℕ) → AreOpen w text text start start (start ∷ rest) rest
opened w text start rest =
    let one : contains (start ∷ rest) start ≡ true = rw (eq-eqb start start refl) refl in
    record {
      closed = [];
      pushed = sym (append-nil text);
      each = tt;
      final = record { first = one; ordered = omega arith; last = one };
      same = λ x. rw (one_has start x) refl;
      few = omega arith;
    }

-- the number that comes next is one of all
next_is : (w : Spelling) (before text : List ℕ) (first last n : ℕ) (all old rest : List ℕ) → old ≡ n ∷ rest → AreOpen w before text first last all old
    → contains all n ≡ true
next_is w before text first last n all old rest is h =
    sym (h.same n) ∙ or_later (list_any (lies_in n) h.closed) _
    (or_later (lies_in n (first, last)) _ (ap (λ (xs : List ℕ). contains xs n) is ∙ or_first (nat_eq n n) _ (eq-eqb n n refl)))

-- the range goes on
pub goes_on : (w : Spelling) (before text : List ℕ) (first last n : ℕ) (all old rest : List ℕ) → last + 1 ≡ n → old ≡ n ∷ rest
    → AreOpen w before text first last all old → AreOpen w before text first n all rest
goes_on w before text first last n all old rest e is h =
    record {
      closed = h.closed;
      pushed = h.pushed;
      each = h.each;
      final = record { first = h.final.first; ordered = omega (arith, e, h.final.ordered); last = next_is w before text first last n all old rest is h };
      same = λ x. ap (λ (b : Bool). list_any (lies_in x) h.closed || b)
          (ap (λ (b : Bool). b || contains rest x) (longer_has first last n x h.final.ordered e)
          ∙ (or_assoc (lies_in x (first, last)) (nat_eq x n) (contains rest x)
          ∙ ap (λ (xs : List ℕ). lies_in x (first, last) || contains xs x) (sym is)))
          ∙ h.same x;
      few = omega (arith, h.few, ap (λ (xs : List ℕ). length xs) is);
    }

each_more : (P : ℕ × ℕ → Type 0) (rs : List (ℕ × ℕ)) (r : ℕ × ℕ) → AllByRecursion P rs → P r → AllByRecursion P (rs ++ r ∷ [])
each_more P [] r a p = (p, tt)
each_more P (s ∷ rs) r a p = (a.0, each_more P rs r a.1 p)

has_more : (x : ℕ) (rs : List (ℕ × ℕ)) (r : ℕ × ℕ) (b : Bool)
    → (list_any (lies_in x) (rs ++ r ∷ []) || b) ≡ (list_any (lies_in x) rs || (lies_in x r || b))
has_more x [] r b = or_assoc (lies_in x r) false b
has_more x (s ∷ rs) r b =
    or_assoc (lies_in x s) (list_any (lies_in x) (rs ++ r ∷ [])) b
    ∙ (ap (λ (c : Bool). lies_in x s || c) (has_more x rs r b) ∙ sym (or_assoc (lies_in x s) (list_any (lies_in x) rs) (lies_in x r || b)))

-- the range is closed, and another begins
pub begins : (w : Spelling) (before text comma now : List ℕ) (first last n : ℕ) (all old rest : List ℕ) → old ≡ n ∷ rest
    → comma ≡ text ++ range_text w (first, last) → now ≡ comma ++ 44 ∷ []
    → AreOpen w before text first last all old → AreOpen w before now n n all rest
begins w before text comma now first last n all old rest is e f h =
    let one = next_is w before text first last n all old rest is h in
    record {
      closed = h.closed ++ (first, last) ∷ [];
      pushed =
          f ∙ (ap (λ (t : List ℕ). t ++ 44 ∷ []) e ∙ (append_assoc text (range_text w (first, last)) (44 ∷ [])
          ∙ (ap (λ (t : List ℕ). t ++ closed_text w (first, last)) h.pushed ∙ flat_map_more (closed_text w) before h.closed (first, last))));
      each = each_more (IsRangeOf all) h.closed (first, last) h.each h.final;
      final = record { first = one; ordered = omega arith; last = one };
      same = λ x. has_more x h.closed (first, last) (lies_in x (n, n) || contains rest x)
          ∙ (ap (λ (b : Bool). list_any (lies_in x) h.closed || (lies_in x (first, last) || b))
          (ap (λ (b : Bool). b || contains rest x) (one_has n x) ∙ ap (λ (xs : List ℕ). contains xs x) (sym is))
          ∙ h.same x);
      few = omega (arith, h.few, ap (λ (xs : List ℕ). length xs) is, length-append h.closed ((first, last) ∷ []));
    }

joined : (w : Spelling) (rs : List (ℕ × ℕ)) (r : ℕ × ℕ) → ranges_text w (rs ++ r ∷ []) ≡ flat_map (closed_text w) rs ++ range_text w r
joined w [] r = refl
joined w (s ∷ []) r =
    sym (append_assoc (range_text w s) (44 ∷ []) (range_text w r)) ∙ ap (λ (t : List ℕ). t ++ range_text w r) (sym (append-nil (closed_text w s)))
joined w (s ∷ t ∷ rs) r =
    let later = flat_map (closed_text w) (t ∷ rs) in
    ap (λ (u : List ℕ). range_text w s ++ 44 ∷ u) (joined w (t ∷ rs) r)
    ∙ (sym (append_assoc (range_text w s) (44 ∷ []) (later ++ range_text w r)) ∙ sym (append_assoc (closed_text w s) later (range_text w r)))

some_more : (rs : List (ℕ × ℕ)) (r : ℕ × ℕ) → rs ++ r ∷ [] ≡ [] → ⊥
some_more [] r e = absurd (cc)
some_more (s ∷ rs) r e = absurd (cc)

-- the last range is closed
pub ranges_end : (w : Spelling) (before text new : List ℕ) (first last : ℕ) (all rest : List ℕ) → rest ≡ [] → AreOpen w before text first last all rest
    → new ≡ text ++ range_text w (first, last) → Pushes (AreRangesText w all) before new
ranges_end w before text new first last all rest none h e =
    let rs = h.closed ++ (first, last) ∷ [] in
    record {
      piece = ranges_text w rs;
      pushed =
          e ∙ (ap (λ (t : List ℕ). t ++ range_text w (first, last)) h.pushed
          ∙ (append_assoc before (flat_map (closed_text w) h.closed) (range_text w (first, last))
          ∙ ap (λ (t : List ℕ). before ++ t) (sym (joined w h.closed (first, last)))));
      is = record {
        ranges = rs;
        are = record {
          each = each_more (IsRangeOf all) h.closed (first, last) h.each h.final;
          same = λ x. list_any-append (lies_in x) h.closed ((first, last) ∷ [])
              ∙ (ap (λ (xs : List ℕ). list_any (lies_in x) h.closed || (lies_in x (first, last) || contains xs x)) (sym none) ∙ h.same x);
          some = some_more h.closed (first, last);
          few = omega (arith, h.few, length-append h.closed ((first, last) ∷ []));
        };
        text = refl;
      };
    }
