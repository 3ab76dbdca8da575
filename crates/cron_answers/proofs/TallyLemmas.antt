-- Fires that were counted so far.
use Rattle.std.proofs.Common.{◌≡◌, ◌≤◌, ◌+◌, ℕ, ℤ, Option, Some, None, List, [], ◌∷◌, ◌++◌, length, min, max, refl, sym, ap, ◌∙◌, append_assoc, append-nil, arith, inl, inr, subst}
use Rattle.std.specs.List.{AllByRecursion}
use Rattle.std.proofs.lemmas.List.Elements.{Contains-append_left, Contains-push}
use Rattle.std.proofs.lemmas.Bool.{cases_lt}
use Rattle.std.specs.Prelude.{Contains}
use Rattle.cron_answers.specs.Inner.Tallies.{with_fire, with_wait}
use Rattle.cron_answers.specs.Tallies.{AreEnds, IsTally, wait_between, waits_of, waits_past}
use Rattle.cron_answers.specs.declared.tally.Tally.{Tally}
use Rattle.cron_answers.specs.declared.tally.Waits.{Waits}

abbrev most : ℕ
most = 18_446_744_073_709_551_615

-- of all these instants those up to the last one were counted, and the rest is left
pub record IsSoFar (all : List ℤ) (t : Tally) (last : Option ℤ) (left : List ℤ) : Type 0 where
  pub number : ℕ
  pub cut : number + length left ≡ length all
  pub counted : t.fires ≡ min number most
  pub waits : List ℕ
  pub joined : waits_of all ≡ waits ++ waits_past last left
  pub ends : AreEnds waits t.waits

pub none_so_far : (all : List ℤ) → IsSoFar all (record { fires = 0; waits = None }) None all
none_so_far all = record { number = 0; cut = omega arith; counted = refl; waits = []; joined = refl; ends = refl }

none_past : (last : Option ℤ) → waits_past last [] ≡ []
none_past None = refl
none_past (Some x) = refl

pub all_counted : (all : List ℤ) (t : Tally) (last : Option ℤ) (left : List ℤ) → left ≡ [] → IsSoFar all t last left → IsTally all t
all_counted all t last left none s =
    record {
      counted = s.counted ∙ ap (λ (n : ℕ). min n most) (omega (arith, s.cut, ap length none));
      ends = subst (λ (ws : List ℕ). AreEnds ws t.waits) (sym (s.joined ∙ (ap (λ (l : List ℤ). s.waits ++ waits_past last l) none
          ∙ (ap (λ (ws : List ℕ). s.waits ++ ws) (none_past last) ∙ append-nil s.waits)))) s.ends;
    }

-- ---- one more

alone : (wait : ℕ) → Contains (wait ∷ []) wait
alone wait = Contains-push [] wait

all_one : (P : ℕ → Type 0) (ws : List ℕ) (wait : ℕ) → AllByRecursion P ws → P wait → AllByRecursion P (ws ++ wait ∷ [])
all_one P [] wait a p = (p, tt)
all_one P (w ∷ ws) wait a p = (a.0, all_one P ws wait a.1 p)

wider : (ws : List ℕ) (a b c d : ℕ) → c ≤ a → b ≤ d → AllByRecursion (λ g. (a ≤ g) × (g ≤ b)) ws → AllByRecursion (λ g. (c ≤ g) × (g ≤ d)) ws
wider [] a b c d l h p = tt
wider (w ∷ ws) a b c d l h p = ((omega (arith, p.0.0, l), omega (arith, p.0.1, h)), wider ws a b c d l h p.1)

least_of : (ws : List ℕ) (a wait : ℕ) → Contains ws a → Contains (ws ++ wait ∷ []) (min a wait)
least_of ws a wait h =
    elim (cases_lt a wait) [
      | inl l ↦ let e : a ≡ min a wait = omega arith in subst (Contains (ws ++ wait ∷ [])) e (Contains-append_left ws (wait ∷ []) a h)
      | inr l ↦ let e : wait ≡ min a wait = omega arith in subst (Contains (ws ++ wait ∷ [])) e (Contains-push ws wait)
    ]

greatest_of : (ws : List ℕ) (a wait : ℕ) → Contains ws a → Contains (ws ++ wait ∷ []) (max a wait)
greatest_of ws a wait h =
    elim (cases_lt a wait) [
      | inl l ↦ let e : wait ≡ max a wait = omega arith in subst (Contains (ws ++ wait ∷ [])) e (Contains-push ws wait)
      | inr l ↦ let e : a ≡ max a wait = omega arith in subst (Contains (ws ++ wait ∷ [])) e (Contains-append_left ws (wait ∷ []) a h)
    ]

ends_on : (ws : List ℕ) (o : Option Waits) (wait : ℕ) → AreEnds ws o → AreEnds (ws ++ wait ∷ []) (Some (with_wait o wait))
ends_on ws None wait e = rw e (alone wait, alone wait, ((omega arith, omega arith), tt))
ends_on ws (Some w) wait e = (
  least_of ws w.shortest wait e.0,
  greatest_of ws w.longest wait e.1,
  all_one (λ g. (min w.shortest wait ≤ g) × (g ≤ max w.longest wait)) ws wait
      (wider ws w.shortest w.longest (min w.shortest wait) (max w.longest wait) (omega arith) (omega arith) e.2) (omega arith, omega arith),
)

pub one_more : (all : List ℤ) (t : Tally) (last : Option ℤ) (s : ℤ) (left rest : List ℤ) → left ≡ s ∷ rest → IsSoFar all t last left
    → IsSoFar all (with_fire t last s) (Some s) rest
one_more all t None s left rest e h =
    record {
      number = h.number + 1;
      cut = omega (arith, h.cut, ap length e);
      counted = omega (arith, h.counted);
      waits = h.waits;
      joined = h.joined ∙ ap (λ (l : List ℤ). h.waits ++ waits_past None l) e;
      ends = h.ends;
    }
one_more all t (Some last) s left rest e h =
    let wait = wait_between last s in
    record {
      number = h.number + 1;
      cut = omega (arith, h.cut, ap length e);
      counted = omega (arith, h.counted);
      waits = h.waits ++ wait ∷ [];
      joined = h.joined ∙ (ap (λ (l : List ℤ). h.waits ++ waits_past (Some last) l) e ∙ sym (append_assoc h.waits (wait ∷ []) (waits_past (Some s) rest)));
      ends = ends_on h.waits t.waits wait h.ends;
    }

pub counted_on : (all : List ℤ) (t new : Tally) (last : Option ℤ) (s second : ℤ) (left rest : List ℤ) → s ≡ second → left ≡ second ∷ rest
    → new ≡ with_fire t last s → IsSoFar all t last left → IsSoFar all new (Some s) rest
counted_on all t new last s second left rest same e f h = rw f (one_more all t last s left rest (e ∙ ap (λ (x : ℤ). x ∷ rest) (sym same)) h)
