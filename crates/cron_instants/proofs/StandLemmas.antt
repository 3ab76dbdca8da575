-- What is left beyond a place among the instants: where a run begins, after a call, and at the end.
use Rattle.std.proofs.Common.{◌≡◌, ℕ, ◌<◌, ℤ, pos, ◌*ℤ◌, Bool, true, false, List, [], ◌∷◌, Option, Some, None, inl, refl, sym, ap, ◌∙◌, arith}
use Rattle.std.specs.Prelude.{filter}
use Rattle.std.specs.Int.{int_div_euclid}
use Rattle.jiff_core.proofs.SignedLemmas.{signed_arith}
use Rattle.jiff_tz.specs.declared.timezone.TimeZone.{TimeZone}
use Rattle.cron_clocks.proofs.Windows.{lt_yes}
use Rattle.cron_units.specs.declared.way.Way.TheVariants.{Ahead}
use Rattle.cron_time.specs.Seconds.{Seconds}
use Rattle.cron_moments.specs.Civil.{seconds_in_range}
use Rattle.cron_moments.specs.Readings.{Reading, instant}
use Rattle.cron_time.proofs.ListLemmas.{filter-alike, filter-none}
use Rattle.cron_seconds.specs.Rules.{IsFirstOf}
use Rattle.cron_seconds.proofs.IntLemmas.{int_lt-true, same_tests}
use Rattle.cron_instants.specs.Fires.{fires, fires_after, fires_past, is_after}
use Rattle.cron_instants.specs.Instants.{IsItem, IsEarliest}
use Rattle.cron_instants.specs.Beyond.{beyond, IsBest, IsBeyond}
use Rattle.cron_instants.specs.Left.{left_beyond}
use Rattle.cron_instants.proofs.BestLemmas.{best_of_more}
use Rattle.cron_instants.proofs.FireLemmas.{KeepsOn, first-of_fires, item-of_fires}
use Rattle.cron_instants.proofs.ItemLemmas.{after_beyond, beyond_after, item_of, stands_of}
use Rattle.cron_seconds.proofs.SetLemmas.{match_in_range}
use Rattle.cron_instants.proofs.OrderLemmas.{before-not_less, before-through}

-- ---- where a run begins

beyond-is_after : (t i : ℤ) (r : Reading) → i ≡ int_div_euclid t (pos 1_000_000_000) → r.second < seconds_in_range
    → beyond Ahead i 4_294_967_295 r ≡ is_after t r
beyond-is_after t i r is high =
    same_tests (beyond Ahead i 4_294_967_295 r) (is_after t r)
    (λ h. lt_yes t (instant r *ℤ pos 1_000_000_000) (beyond_after t i r is high h))
    (λ h. after_beyond t i r is (int_lt-true t (instant r *ℤ pos 1_000_000_000) h))

pub left-after : (s : Seconds) (z : TimeZone) (t i : ℤ) (c : ℕ) → i ≡ int_div_euclid t (pos 1_000_000_000) → c ≡ 4_294_967_295
    → left_beyond s z i c ≡ fires_after s z t
left-after s z t i c is last =
    rw last (filter-alike (beyond Ahead i 4_294_967_295) (is_after t) (fires s z)
    (λ q h. beyond-is_after t i q is (match_in_range s q.second (stands_of s z q (item-of_fires s z q h)).matching)))

-- ---- a call

beyond-keeps_on : (i : ℤ) (c : ℕ) → KeepsOn (beyond Ahead i c)
beyond-keeps_on i c a b h earlier = before-through i (instant a) (instant b) c a.second b.second h earlier

beyond-first : (s : Seconds) (z : TimeZone) (i : ℤ) (c : ℕ) (best : Option Reading) → IsBest Ahead (IsBeyond Ahead s z i c) best
    → IsEarliest (λ r. IsItem s z r × (beyond Ahead i c r ≡ true)) best
beyond-first s z i c best found =
    best_of_more Ahead (IsBeyond Ahead s z i c) (λ r. IsItem s z r × (beyond Ahead i c r ≡ true)) best found
    (λ r m. (item_of s z r m.0, m.1))
    (λ r m. inl (stands_of s z r m.0, m.1))

-- the nearest item beyond is the first one, and those past it are left
pub left-first : (s : Seconds) (z : TimeZone) (i : ℤ) (c : ℕ) (best : Option Reading) → IsBest Ahead (IsBeyond Ahead s z i c) best
    → IsFirstOf (left_beyond s z i c) (fires_past s z) best
left-first s z i c best found = first-of_fires s z (beyond Ahead i c) best (beyond-keeps_on i c) (beyond-first s z i c best found)

-- ---- the end

-- beyond it lies nothing: an offset is less than 26 hours
pub left-end : (s : Seconds) (z : TimeZone) (i : ℤ) (c : ℕ) → i ≡ pos 400_000_000_000 → left_beyond s z i c ≡ []
left-end s z i c is =
    filter-none (beyond Ahead i c) (fires s z) (λ r h.
    let high = match_in_range s r.second (stands_of s z r (item-of_fires s z r h)).matching in
    let near = r.offset.in_range in
    before-not_less i c (instant r) r.second (omega (arith, signed_arith, near.0, near.1)))
