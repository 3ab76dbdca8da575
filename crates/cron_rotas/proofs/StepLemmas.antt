-- How long one person is on duty.
use Rattle.std.proofs.Common.{◌≡◌, ℕ, ℤ, ◌≤ℤ◌, ◌<ℤ◌, Bool, true, false, Option, Some, None, ◌⊎◌, inl, inr, refl, sym, ap, ◌∙◌, arith}
use Rattle.std.specs.Prelude.{nat_eq, unwrap_or}
use Rattle.std.proofs.lemmas.Int.{ints, by_lt_z}
use Rattle.cron_stretches.specs.Laws.{IsEquality}
use Rattle.cron_stretches.specs.Fires.{IsNext}
use Rattle.cron_rotas.specs.Edges.{IsNextEdge}
use Rattle.cron_rotas.specs.Rotas.{Duty, handovers_in, person_at, swapped, turn_at}
use Rattle.cron_rotas.specs.Steps.{IsShift, IsStep}
use Rattle.cron_rotas.proofs.SwapLemmas.{swapped-alike}
use Rattle.cron_rotas.proofs.TurnLemmas.{no_handovers, turn-same}

pub nat_eq-is : IsEquality nat_eq
nat_eq-is = record {
  itself = λ a. grind arith;
  same = λ a b h. grind arith;
}

-- up to an edge of the swaps, or up to the next handover if that is earlier
pub step : (d : Duty) (a to edge end : ℤ) (next : Option ℤ) → d.start ≤ℤ a → IsNextEdge d.swaps a to edge → IsNext d.handovers a next
    → a <ℤ end → end ≤ℤ edge → ((n : ℤ) → next ≡ Some n → end ≤ℤ n) → IsStep d a to end
step d a to edge end next low is_edge is_next later within first = record {
  later = later;
  within = omega (arith, ints, is_edge.1);
  same = λ t from until.
      let swaps = swapped-alike d.swaps a to edge t is_edge from (omega (arith, ints)) in
      let none = no_handovers d.handovers a t next is_next (λ n e. let le = first n e in omega (arith, ints)) in
      let turns = turn-same d a t low from none in
      ap (λ (o : Option ℕ). unwrap_or o (turn_at d t)) swaps ∙ ap (unwrap_or (swapped d.swaps a)) turns;
}

-- ---- shifts

abbrev pub AllOf : Duty → ℕ → ℤ → ℤ → Type 0
AllOf d person from end = (t : ℤ) → from ≤ℤ t → t <ℤ end → person_at d t ≡ person

pub first-step : (d : Duty) (person : ℕ) (from to end : ℤ) → person ≡ person_at d from → IsStep d from to end → AllOf d person from end
first-step d person from to end is step t low high = step.same t low high ∙ sym is

pub next-step : (d : Duty) (person : ℕ) (from to mid end : ℤ) → AllOf d person from mid → person_at d mid ≡ person → IsStep d mid to end → AllOf d person from end
next-step d person from to mid end all here step t low high =
    by_lt_z t mid (λ early. all t low early) (λ late. step.same t late high ∙ here)
