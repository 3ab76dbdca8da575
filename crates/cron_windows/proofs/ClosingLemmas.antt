-- What closes windows: when one that opened at a fire has closed.
use Rattle.std.proofs.Common.{◌≡◌, ℕ, ◌<◌, ℤ, pos, ◌+ℤ◌, ◌-ℤ◌, ◌≤ℤ◌, ◌<ℤ◌, Bool, true, false, List, Option, Some, None, ◌⊎◌, inl, inr, refl, sym, ap, ◌∙◌, subst, arith}
use Rattle.std.specs.Prelude.{int_le, int_lt, ◌&&◌, MatchOption}
use Rattle.std.specs.List.{list_any}
use Rattle.std.proofs.lemmas.Int.{ints, by_lt_z}
use Rattle.std.proofs.lemmas.Bool.{ltb-true}
use Rattle.cron_clocks.proofs.Windows.{le_no, le_yes, lt_no, lt_yes}
use Rattle.cron_seconds.specs.Rules.{IsAmong}
use Rattle.cron_seconds.proofs.IntLemmas.{int_le-true, int_lt-true, same_tests}
use Rattle.cron_stretches.specs.Fires.{IsLatest, IsNext, instants}
use Rattle.cron_windows.specs.Windows.{EndsAt, closing_by, has_closed, has_come, has_passed, takes_time}
use Rattle.cron_windows.specs.declared.closing.Closing.{Closing}
use Rattle.cron_windows.specs.declared.closing.Closing.TheVariants.{After, AtFires}
use Rattle.cron_stretches.proofs.FireLemmas.{any-no, any-no-each, any-some, any-yes}

-- what has closed stays closed, what opened earlier has closed too, and none closes at once
pub record IsClosing (closed : ℤ → ℤ → Bool) : Type 0 where
  pub later : (f t u : ℤ) → t ≤ℤ u → closed f t ≡ true → closed f u ≡ true
  pub earlier : (f g t : ℤ) → f ≤ℤ g → closed g t ≡ true → closed f t ≡ true
  pub not_at_once : (f : ℤ) → closed f f ≡ false

pub still_open : (closed : ℤ → ℤ → Bool) → IsClosing closed → (f t u : ℤ) → t ≤ℤ u → closed f u ≡ false → closed f t ≡ false
still_open closed is f t u le h = by_test (closed f t) refl
  where
    by_test : (b : Bool) → closed f t ≡ b → b ≡ false
    by_test true e = let late : closed f u ≡ true = is.later f t u le e in absurd (cc)
    by_test false e = refl

pub and_yes : (a b : Bool) → a ≡ true → b ≡ true → (a && b) ≡ true
and_yes true b h k = k
and_yes false b h k = absurd (cc)

pub and_each : (a b : Bool) → (a && b) ≡ true → (a ≡ true) × (b ≡ true)
and_each true b h = (refl, h)
and_each false b h = absurd (cc)

pub and_first_no : (a b : Bool) → a ≡ false → (a && b) ≡ false
and_first_no true b h = absurd (cc)
and_first_no false b h = refl

pub and_second_no : (a b : Bool) → b ≡ false → (a && b) ≡ false
and_second_no true b h = h
and_second_no false b h = refl

-- ---- by seconds that pass

module _ (length : ℕ) where
  passed-closing : 0 < length → IsClosing (has_passed length)
  passed-closing some = record {
    later = λ f t u le h. let early = int_le-true (f +ℤ pos length) t h in le_yes (f +ℤ pos length) u (omega (arith, ints));
    earlier = λ f g t le h. let early = int_le-true (g +ℤ pos length) t h in le_yes (f +ℤ pos length) t (omega (arith, ints));
    not_at_once = λ f. le_no (f +ℤ pos length) f (omega (arith, ints));
  }

  pub passed-reach : (t reach : ℤ) → reach ≡ t -ℤ pos length +ℤ pos 1 → (f : ℤ) → has_passed length f t ≡ int_lt f reach
  passed-reach t reach is f =
      same_tests (int_le (f +ℤ pos length) t) (int_lt f reach)
      (λ h. let early = int_le-true (f +ℤ pos length) t h in lt_yes f reach (omega (arith, ints)))
      (λ h. let early = int_lt-true f reach h in le_yes (f +ℤ pos length) t (omega (arith, ints)))

  not_passed : (f t : ℤ) → has_passed length f t ≡ false → t <ℤ (f +ℤ pos length)
  not_passed f t h = by_lt_z t (f +ℤ pos length) (λ less. less) (λ le. let passed = le_yes (f +ℤ pos length) t le in absurd (cc))

  pub passed-end : (opened second to end : ℤ) → second <ℤ to → has_passed length opened second ≡ false
      → ((end ≡ to) ⊎ (end ≡ opened +ℤ pos length)) → end ≤ℤ to → end ≤ℤ (opened +ℤ pos length)
      → EndsAt (has_passed length opened) second to end
  passed-end opened second to end later unclosed is low high =
      let less = not_passed opened second unclosed in
      (by_end is, low, λ t from early. le_no (opened +ℤ pos length) t (omega (arith, ints)), by_is is)
    where
      by_end : (end ≡ to) ⊎ (end ≡ opened +ℤ pos length) → second <ℤ end
      by_end (inl e) = omega (arith, ints)
      by_end (inr e) = let less = not_passed opened second unclosed in omega (arith, ints)

      by_is : (end ≡ to) ⊎ (end ≡ opened +ℤ pos length) → (end ≡ to) ⊎ (has_passed length opened end ≡ true)
      by_is (inl e) = inl e
      by_is (inr e) = inr (le_yes (opened +ℤ pos length) end (omega (arith, ints)))

-- ---- at the next fire of a set

module _ (fires : List ℤ) where
  come-yes : (opened t n : ℤ) → IsAmong fires n → opened <ℤ n → n ≤ℤ t → has_come fires opened t ≡ true
  come-yes opened t n is low high =
      any-yes (λ fire. int_lt opened fire && int_le fire t) fires n is
      (and_yes (int_lt opened n) (int_le n t) (lt_yes opened n low) (le_yes n t high))

  pub come-no : (opened t : ℤ) → ((n : ℤ) → IsAmong fires n → opened <ℤ n → n ≤ℤ t → ⊥) → has_come fires opened t ≡ false
  come-no opened t none =
      any-no (λ fire. int_lt opened fire && int_le fire t) fires
      (λ q among. by_lt_z opened q
      (λ low. by_lt_z t q
      (λ late. and_second_no (int_lt opened q) (int_le q t) (le_no q t late))
      (λ high. absurd (none q among low high)))
      (λ early. and_first_no (int_lt opened q) (int_le q t) (lt_no opened q early)))

  come-some : (opened t : ℤ) → has_come fires opened t ≡ true → (n : ℤ) × IsAmong fires n × (opened <ℤ n) × (n ≤ℤ t)
  come-some opened t h =
      let (q, among, passes) = any-some (λ fire. int_lt opened fire && int_le fire t) fires h in
      let both = and_each (int_lt opened q) (int_le q t) passes in
      (q, among, int_lt-true opened q both.0, int_le-true q t both.1)

  pub come-none : (opened t : ℤ) → has_come fires opened t ≡ false → (n : ℤ) → IsAmong fires n → opened <ℤ n → n ≤ℤ t → ⊥
  come-none opened t h n is low high = let come = come-yes opened t n is low high in absurd (cc)

  pub come-closing : IsClosing (has_come fires)
  come-closing = record {
    later = λ f t u le h. let (n, is, low, high) = come-some f t h in come-yes f u n is low (omega (arith, ints));
    earlier = λ f g t le h. let (n, is, low, high) = come-some g t h in come-yes f t n is (omega (arith, ints)) high;
    not_at_once = λ f. come-no f f (λ n is low high. absurd (omega (arith, ints)));
  }

  pub come-reach_none : (t : ℤ) → IsLatest fires t None → (f : ℤ) → has_come fires f t ≡ false
  come-reach_none t none f = come-no f t (λ n is low high. let late = none n is in absurd (omega (arith, ints)))

  pub come-reach : (t reach : ℤ) → IsLatest fires t (Some reach) → (f : ℤ) → has_come fires f t ≡ int_lt f reach
  come-reach t reach (is, by, latest) f =
      same_tests (has_come fires f t) (int_lt f reach)
      (λ h. let (n, one, low, high) = come-some f t h in let le = latest n one high in lt_yes f reach (omega (arith, ints)))
      (λ h. come-yes f t reach is (int_lt-true f reach h) by)

  pub come-end_none : (opened second to : ℤ) → second <ℤ to → has_come fires opened second ≡ false → IsNext fires second None
      → EndsAt (has_come fires opened) second to to
  come-end_none opened second to later unclosed none = (
    later,
    omega (arith, ints),
    λ t from early. come-no opened t (λ n is low high. let le = none n is in come-none opened second unclosed n is low le),
    inl refl,
  )

  pub come-end : (opened second to close end : ℤ) → second <ℤ to → opened ≤ℤ second → has_come fires opened second ≡ false
      → IsNext fires second (Some close) → ((end ≡ to) ⊎ (end ≡ close)) → end ≤ℤ to → end ≤ℤ close
      → EndsAt (has_come fires opened) second to end
  come-end opened second to close end later before unclosed (is, after, next) ends low high = (
    by_end ends,
    low,
    λ t from early. come-no opened t (λ n one above below. by_lt_z second n
        (λ late. let le = next n one late in absurd (omega (arith, ints)))
        (λ le. come-none opened second unclosed n one above le)),
    by_is ends,
  )
    where
      by_end : (end ≡ to) ⊎ (end ≡ close) → second <ℤ end
      by_end (inl e) = omega (arith, ints)
      by_end (inr e) = omega (arith, ints)

      by_is : (end ≡ to) ⊎ (end ≡ close) → (end ≡ to) ⊎ (has_come fires opened end ≡ true)
      by_is (inl e) = inl e
      by_is (inr e) = inr (come-yes opened end close is (omega (arith, ints)) (omega (arith, ints)))

-- ---- by either

pub is-closing : (closing : Closing (List ℤ)) → takes_time closing ≡ true → IsClosing (has_closed closing)
unfolding has_closed
is-closing (After length) some = passed-closing length (ltb-true 0 length some)
is-closing (AtFires fires) some = come-closing fires

pub still-takes : {A C : Type 0} (at : A → ℤ) (fires_of : C → List A) (closing : Closing C) → takes_time closing ≡ true → takes_time (closing_by at fires_of closing) ≡ true
still-takes at fires_of (After length) some = some
still-takes at fires_of (AtFires set) some = refl

-- ---- what a search of the closing set answers

module _ {A C : Type 0} (at : A → ℤ) (fires_of : C → List A) (closing : Closing C) where
  pub reach-after : (length : ℕ) → closing ≡ After length → (t reach : ℤ) → reach ≡ t -ℤ pos length +ℤ pos 1 → (f : ℤ)
      → has_closed (closing_by at fires_of closing) f t ≡ int_lt f reach
  unfolding has_closed
  reach-after length is t reach e f = subst (λ c. has_closed (closing_by at fires_of c) f t ≡ int_lt f reach) (sym is) (passed-reach length t reach e f)

  pub reach-at : (set : C) → closing ≡ AtFires set → (t : ℤ) (answer : Option ℤ) → IsLatest (instants at (fires_of set)) t answer
      → MatchOption answer ((f : ℤ) → f ≤ℤ t → has_closed (closing_by at fires_of closing) f t ≡ false)
      (λ reach. (f : ℤ) → f ≤ℤ t → has_closed (closing_by at fires_of closing) f t ≡ int_lt f reach)
  unfolding has_closed
  reach-at set is t None none = λ f le. subst (λ c. has_closed (closing_by at fires_of c) f t ≡ false) (sym is) (come-reach_none (instants at (fires_of set)) t none f)
  reach-at set is t (Some reach) last = λ f le. subst (λ c. has_closed (closing_by at fires_of c) f t ≡ int_lt f reach) (sym is) (come-reach (instants at (fires_of set)) t reach last f)

  pub end-after : (length : ℕ) → closing ≡ After length → (opened second to end : ℤ) → second <ℤ to
      → has_closed (closing_by at fires_of closing) opened second ≡ false
      → ((end ≡ to) ⊎ (end ≡ opened +ℤ pos length)) → end ≤ℤ to → end ≤ℤ (opened +ℤ pos length)
      → EndsAt (has_closed (closing_by at fires_of closing) opened) second to end
  unfolding has_closed
  end-after length is opened second to end later unclosed which low high =
      let own : has_passed length opened second ≡ false = subst (λ c. has_closed (closing_by at fires_of c) opened second ≡ false) is unclosed in
      subst (λ c. EndsAt (has_closed (closing_by at fires_of c) opened) second to end) (sym is) (passed-end length opened second to end later own which low high)

  pub end-at : (set : C) → closing ≡ AtFires set → (opened second to close end : ℤ) → second <ℤ to → opened ≤ℤ second
      → has_closed (closing_by at fires_of closing) opened second ≡ false → IsNext (instants at (fires_of set)) second (Some close)
      → ((end ≡ to) ⊎ (end ≡ close)) → end ≤ℤ to → end ≤ℤ close
      → EndsAt (has_closed (closing_by at fires_of closing) opened) second to end
  unfolding has_closed
  end-at set is opened second to close end later before unclosed next which low high =
      let own : has_come (instants at (fires_of set)) opened second ≡ false = subst (λ c. has_closed (closing_by at fires_of c) opened second ≡ false) is unclosed in
      subst (λ c. EndsAt (has_closed (closing_by at fires_of c) opened) second to end) (sym is)
      (come-end (instants at (fires_of set)) opened second to close end later before own next which low high)

  pub end-none : (set : C) → closing ≡ AtFires set → (opened second to : ℤ) → second <ℤ to
      → has_closed (closing_by at fires_of closing) opened second ≡ false → IsNext (instants at (fires_of set)) second None
      → EndsAt (has_closed (closing_by at fires_of closing) opened) second to to
  unfolding has_closed
  end-none set is opened second to later unclosed next =
      let own : has_come (instants at (fires_of set)) opened second ≡ false = subst (λ c. has_closed (closing_by at fires_of c) opened second ≡ false) is unclosed in
      subst (λ c. EndsAt (has_closed (closing_by at fires_of c) opened) second to to) (sym is)
      (come-end_none (instants at (fires_of set)) opened second to later own next)

  pub closing-by_is : takes_time closing ≡ true → IsClosing (has_closed (closing_by at fires_of closing))
  closing-by_is some = is-closing (closing_by at fires_of closing) (still-takes at fires_of closing some)
