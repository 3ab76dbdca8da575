-- When windows are open: what the fires around a second say of the seconds there.
use Rattle.std.proofs.Common.{◌≡◌, ◌<◌, ℕ, ℤ, pos, ◌+ℤ◌, ◌-ℤ◌, ◌≤ℤ◌, ◌<ℤ◌, Bool, true, false, cond, List, Option, Some, None, ◌⊎◌, inl, inr, refl, sym, ap, ◌∙◌, arith}
use Rattle.std.specs.Prelude.{int_le, int_lt, not, ◌&&◌, MatchOption}
use Rattle.std.specs.Int.{int_max}
use Rattle.std.specs.List.{list_any}
use Rattle.std.proofs.lemmas.Int.{ints, by_lt_z, clamps}
use Rattle.cron_clocks.proofs.Windows.{le_no, le_yes, lt_no, lt_yes}
use Rattle.cron_seconds.specs.Rules.{IsAmong}
use Rattle.cron_stretches.specs.Stretches.{seconds_from}
use Rattle.cron_stretches.proofs.StretchLemmas.{seconds_from-is}
use Rattle.cron_stretches.specs.Fires.{IsLatest, IsNext}
use Rattle.cron_windows.specs.Windows.{AllAre, EndsAt, LastsSince, LastsUntil, WindowFires, behind, has_closed, is_open}
use Rattle.cron_stretches.proofs.FireLemmas.{any-no, any-yes}
use Rattle.cron_windows.proofs.ClosingLemmas.{IsClosing, and_first_no, and_second_no, and_yes, still_open}

by_max : (a b f : ℤ) → int_max a b <ℤ f → b <ℤ f
by_max a b f less = omega (arith, ints, clamps)

max_below : (a b f : ℤ) → a <ℤ f → b <ℤ f → int_max a b <ℤ f
max_below a b f first second = omega (arith, ints, clamps)

module _ (w : WindowFires) (is : IsClosing (has_closed w.closing)) where
  abbrev open_at : ℤ → Bool
  open_at = is_open w

  pub open-yes : (n t : ℤ) → IsAmong w.opens n → n ≤ℤ t → has_closed w.closing n t ≡ false → is_open w t ≡ true
  unfolding is_open
  open-yes n t one le still =
      any-yes (λ fire. int_le fire t && not (has_closed w.closing fire t)) w.opens n one
      (and_yes (int_le n t) (not (has_closed w.closing n t)) (le_yes n t le) (ap not still))

  pub open-no : (t : ℤ) → ((n : ℤ) → IsAmong w.opens n → n ≤ℤ t → has_closed w.closing n t ≡ true) → is_open w t ≡ false
  unfolding is_open
  open-no t all =
      any-no (λ fire. int_le fire t && not (has_closed w.closing fire t)) w.opens
      (λ q among. by_lt_z t q
      (λ late. and_first_no (int_le q t) (not (has_closed w.closing q t)) (le_no q t late))
      (λ early. and_second_no (int_le q t) (not (has_closed w.closing q t)) (ap not (all q among early))))

  pub open-no-each : (t : ℤ) → is_open w t ≡ false → (n : ℤ) → IsAmong w.opens n → n ≤ℤ t → has_closed w.closing n t ≡ true
  open-no-each t h n one le = by_test (has_closed w.closing n t) refl
    where
      by_test : (b : Bool) → has_closed w.closing n t ≡ b → b ≡ true
      by_test true e = refl
      by_test false e = let yes = open-yes n t one le e in absurd (cc)

  -- ---- the last window that has opened

  pub none-opened : (t : ℤ) → IsLatest w.opens t None → (u : ℤ) → u ≤ℤ t → open_at u ≡ false
  none-opened t none u le = open-no u (λ n one early. let late = none n one in absurd (omega (arith, ints)))

  pub last-closed : (t opened : ℤ) → IsLatest w.opens t (Some opened) → has_closed w.closing opened t ≡ true → open_at t ≡ false
  last-closed t opened (one, le, latest) h = open-no t (λ n other early. is.earlier n opened t (latest n other early) h)

  -- from a fire on, up to a second when its window is open
  pub open-from : (n t : ℤ) → IsAmong w.opens n → n ≤ℤ t → has_closed w.closing n t ≡ false → AllAre open_at n (t +ℤ pos 1) true
  open-from n t one le h u low high = open-yes n u one low (still_open (has_closed w.closing) is n u t (omega (arith, ints)) h)

  pub last-open : (t opened : ℤ) → IsLatest w.opens t (Some opened) → has_closed w.closing opened t ≡ false → AllAre open_at opened (t +ℤ pos 1) true
  last-open t opened (one, le, latest) h = open-from opened t one le h

  pub last-open_from : (from t opened : ℤ) → IsLatest w.opens t (Some opened) → has_closed w.closing opened t ≡ false → opened ≤ℤ from → AllAre open_at from (t +ℤ pos 1) true
  last-open_from from t opened last h early u low high = last-open t opened last h u (omega (arith, ints)) high

  -- the first fire whose window is open at a second
  pub first-open_none : (t opened behind : ℤ) → IsLatest w.opens t (Some opened) → behind <ℤ opened → IsNext w.opens behind None → open_at t ≡ false
  first-open_none t opened behind (one, le, latest) less none = let early = none opened one in absurd (omega (arith, ints))

  pub first-open : (from t opened behind first : ℤ) → IsLatest w.opens t (Some opened) → behind <ℤ opened → from ≤ℤ behind
      → ((f : ℤ) → behind <ℤ f → f ≤ℤ t → has_closed w.closing f t ≡ false) → IsNext w.opens behind (Some first)
      → (from ≤ℤ first) × (first ≤ℤ t) × AllAre open_at first (t +ℤ pos 1) true
  first-open from t opened behind first (one, le, latest) less low still (other, after, next) =
      let early = next opened one less in
      (omega (arith, ints), omega (arith, ints), open-from first t other (omega (arith, ints)) (still first after (omega (arith, ints))))

  -- up to when it is open
  pub open-until : (t opened to end : ℤ) → IsLatest w.opens t (Some opened) → EndsAt (has_closed w.closing opened) t to end → AllAre open_at t end true
  open-until t opened to end (one, le, latest) ends u low high = open-yes opened u one (omega (arith, ints)) (ends.2 u low high)

  -- ---- seconds when none is open

  pub closed-since : (t opened since : ℤ) → IsLatest w.opens t (Some opened) → has_closed w.closing opened since ≡ true → AllAre open_at since (t +ℤ pos 1) false
  closed-since t opened since (one, le, latest) h u low high =
      open-no u (λ n other early. is.earlier n opened u (latest n other (omega (arith, ints))) (is.later opened since u low h))

  pub since-end : (from since t opened end : ℤ) → IsLatest w.opens t (Some opened) → opened ≤ℤ since → from ≤ℤ since → open_at t ≡ false
      → EndsAt (has_closed w.closing opened) since t end → LastsSince open_at false from t end
  since-end from since t opened end last before low none ends =
      let (one, le, latest) = last in
      record {
        from_first = omega (arith, ints, ends.0);
        first_to_t = ends.1;
        alike = closed-since t opened end last (by_end one le ends.3);
        before = inr (open-yes opened (end -ℤ pos 1) one (omega (arith, ints, ends.0)) (ends.2 (end -ℤ pos 1) (omega (arith, ints, ends.0)) (omega (arith, ints))));
      }
    where
      by_end : IsAmong w.opens opened → opened ≤ℤ t → (end ≡ t) ⊎ (has_closed w.closing opened end ≡ true) → has_closed w.closing opened end ≡ true
      by_end one le (inl same) = ap (has_closed w.closing opened) same ∙ open-no-each t none opened one le
      by_end one le (inr h) = h

  pub since-from : (from t opened since : ℤ) → IsLatest w.opens t (Some opened) → ((since ≡ opened) ⊎ (since ≡ from)) → from ≤ℤ t → has_closed w.closing opened since ≡ true
      → LastsSince open_at false from t from
  since-from from t opened since last (inl same) le h =
      let never = is.not_at_once opened in
      let now : has_closed w.closing opened opened ≡ true = ap (has_closed w.closing opened) (sym same) ∙ h in
      absurd (cc)
  since-from from t opened since last (inr same) le h =
      record {
        from_first = omega (arith, ints);
        first_to_t = le;
        alike = closed-since t opened from last (ap (has_closed w.closing opened) (sym same) ∙ h);
        before = inl refl;
      }

  pub since-nothing : (from t : ℤ) → IsLatest w.opens t None → from ≤ℤ t → LastsSince open_at false from t from
  since-nothing from t none le =
      record {
        from_first = omega (arith, ints);
        first_to_t = le;
        alike = λ u low high. none-opened t none u (omega (arith, ints));
        before = inl refl;
      }

  closed-ahead : (t end : ℤ) → open_at t ≡ false → ((n : ℤ) → IsAmong w.opens n → t <ℤ n → end ≤ℤ n) → AllAre open_at t end false
  closed-ahead t end none next u low high =
      open-no u (λ n one early. by_lt_z t n
      (λ late. let far = next n one late in absurd (omega (arith, ints)))
      (λ le. is.later n t u low (open-no-each t none n one le)))

  pub until-none : (t to : ℤ) → open_at t ≡ false → t <ℤ to → IsNext w.opens t None → LastsUntil open_at false t to to
  until-none t to none later next =
      record {
        later = later;
        within = omega (arith, ints);
        alike = closed-ahead t to none (λ n one late. let le = next n one in absurd (omega (arith, ints)));
        ends = inl refl;
      }

  pub until-late : (t to fire : ℤ) → open_at t ≡ false → t <ℤ to → to ≤ℤ fire → IsNext w.opens t (Some fire) → LastsUntil open_at false t to to
  until-late t to fire none later late (one, after, next) =
      record {
        later = later;
        within = omega (arith, ints);
        alike = closed-ahead t to none (λ n other past. let le = next n other past in omega (arith, ints));
        ends = inl refl;
      }

  pub until-fire : (t to fire : ℤ) → open_at t ≡ false → fire ≤ℤ to → IsNext w.opens t (Some fire) → LastsUntil open_at false t to fire
  until-fire t to fire none within (one, after, next) =
      record {
        later = after;
        within = within;
        alike = closed-ahead t fire none next;
        ends = inr (open-yes fire fire one (omega (arith, ints)) (is.not_at_once fire));
      }

  -- ---- as the calls need it

  pub opened-decides : (t opened : ℤ) (b : Bool) → IsLatest w.opens t (Some opened) → b ≡ has_closed w.closing opened t → not b ≡ is_open w t
  opened-decides t opened true last e = sym (last-closed t opened last (sym e))
  opened-decides t opened false last e = let (one, le, latest) = last in sym (last-open t opened last (sym e) t le (omega (arith, ints)))

  -- past the second right before the reach each window is open
  pub past-reach : (from t : ℤ) (reach : Option ℤ)
      → MatchOption reach ((f : ℤ) → f ≤ℤ t → has_closed w.closing f t ≡ false) (λ r. (f : ℤ) → f ≤ℤ t → has_closed w.closing f t ≡ int_lt f r)
      → (f : ℤ) → behind from reach <ℤ f → f ≤ℤ t → has_closed w.closing f t ≡ false
  past-reach from t None all f past le = all f le
  past-reach from t (Some r) all f past le =
      let high : (r -ℤ pos 1) <ℤ f = by_max from (r -ℤ pos 1) f past in
      all f le ∙ lt_no f r (omega (arith, ints))

  -- and that second comes before the fire that opened the last one
  pub behind-opened : (from t opened : ℤ) (reach : Option ℤ)
      → MatchOption reach ((f : ℤ) → f ≤ℤ t → has_closed w.closing f t ≡ false) (λ r. (f : ℤ) → f ≤ℤ t → has_closed w.closing f t ≡ int_lt f r)
      → from <ℤ opened → opened ≤ℤ t → has_closed w.closing opened t ≡ false → behind from reach <ℤ opened
  behind-opened from t opened None all later le h = later
  behind-opened from t opened (Some r) all later le h =
      by_lt_z opened r
      (λ less. let test : int_lt opened r ≡ true = lt_yes opened r less in let own = all opened le in absurd (cc))
      (λ reached. max_below from (r -ℤ pos 1) opened later (omega (arith, ints)))

  -- the search back for a second since which windows are open
  pub since-found : (from t opened : ℤ) (reach next : Option ℤ) → IsLatest w.opens t (Some opened) → has_closed w.closing opened t ≡ false
      → MatchOption reach ((f : ℤ) → f ≤ℤ t → has_closed w.closing f t ≡ false) (λ r. (f : ℤ) → f ≤ℤ t → has_closed w.closing f t ≡ int_lt f r)
      → from <ℤ opened → from ≤ℤ behind from reach → IsNext w.opens (behind from reach) next
      → MatchOption next (open_at t ≡ false) (λ first. (from ≤ℤ first) × (first ≤ℤ t) × AllAre open_at first (t +ℤ pos 1) true)
  since-found from t opened reach None last h all later low is_next =
      let (one, le, latest) = last in
      first-open_none t opened (behind from reach) last (behind-opened from t opened reach all later le h) is_next
  since-found from t opened reach (Some first) last h all later low is_next =
      let (one, le, latest) = last in
      first-open from t opened (behind from reach) first last (behind-opened from t opened reach all later le h) low (past-reach from t reach all) is_next

  -- a second when the window that opened last is open comes before one when none is
  pub since-later : (t opened since : ℤ) → IsLatest w.opens t (Some opened) → open_at t ≡ false → has_closed w.closing opened since ≡ false → since ≤ℤ t → since <ℤ t
  since-later t opened since (one, at_t, latest) none unclosed le =
      by_lt_z since t (λ less. less)
      (λ not_less.
      let same : since ≡ t = omega (arith, ints) in
      let closed = open-no-each t none opened one at_t in
      let now : has_closed w.closing opened t ≡ false = ap (has_closed w.closing opened) (sym same) ∙ unclosed in
      absurd (cc))

pub behind-low : (from : ℤ) (reach : Option ℤ) → from ≤ℤ behind from reach
behind-low from None = omega (arith, ints)
behind-low from (Some r) = omega (arith, ints, clamps)

pub max-cases : (a b m : ℤ) → m ≡ int_max a b → (m ≡ a) ⊎ (m ≡ b)
max-cases a b m is =
    by_lt_z b a
    (λ less. inl (is ∙ ap (λ t. cond t a b) (lt_yes b a less)))
    (λ le. inr (is ∙ ap (λ t. cond t a b) (lt_no b a le)))

-- fewer seconds are left
pub fewer : (a b c : ℤ) → a <ℤ b → b ≤ℤ c → seconds_from (c -ℤ b) < seconds_from (c -ℤ a)
fewer a b c less le =
    let rest : pos (seconds_from (c -ℤ b)) ≡ c -ℤ b = seconds_from-is (c -ℤ b) (omega (arith, ints)) in
    let whole : pos (seconds_from (c -ℤ a)) ≡ c -ℤ a = seconds_from-is (c -ℤ a) (omega (arith, ints)) in
    omega (arith, ints)
