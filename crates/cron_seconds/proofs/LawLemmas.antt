-- Laws of fires in the order of a rule: stretches that meet, and runs that are cut.
use Rattle.std.proofs.Common.{◌≡◌, ℤ, pos, ◌*ℤ◌, ◌≤ℤ◌, Bool, true, false, List, [], ◌∷◌, ◌++◌, inl, inr, refl, sym, ap, ◌∙◌, subst, arith}
use Rattle.std.specs.Prelude.{filter}
use Rattle.std.proofs.lemmas.Int.{ints}
use Rattle.jiff_core.proofs.SignedLemmas.{signed_arith}
use Rattle.cron_clocks.proofs.Windows.{le_yes, lt_yes}
use Rattle.cron_time.proofs.ListLemmas.{Among, among-cases, among-filter, among-first, among-rest, filter-all, filter-none, filter-swap, filter-within}
use Rattle.cron_seconds.specs.Laws.{RunsGoOn, RunsPastGoOn, StretchesAreJoined, StretchesGoOn}
use Rattle.cron_seconds.specs.Rules.{AreInOrder, IsAmong, IsCut, IsOrder, Rises, all_after, all_between, is_after, is_by}
use Rattle.cron_seconds.proofs.IntLemmas.{int_le-true, int_lt-true}
use Rattle.cron_seconds.proofs.OrderLemmas as order

-- the instant of each fire is none later than those behind it
abbrev KeepsUp : {A : Type 0} → (A → ℤ) → List A → Type 0
KeepsUp at [] = Unit {0}
KeepsUp at (x ∷ l) = ((y : _) → Among l y → at x ≤ℤ at y) × KeepsUp at l

module _ {A : Type 0} (at : A → ℤ) where
  not_after-by : (t : ℤ) (r : A) → is_after at t r ≡ false → is_by at t r ≡ true
  not_after-by t r h = grind (arith, ints)

  after-not_by : (t : ℤ) (r : A) → is_after at t r ≡ true → is_by at t r ≡ false
  after-not_by t r h = grind (arith, ints)

  after_earlier : (a b : ℤ) (r : A) → a ≤ℤ b → is_after at b r ≡ true → is_after at a r ≡ true
  after_earlier a b r le h =
      let late = int_lt-true b (at r *ℤ pos 1_000_000_000) h in lt_yes a (at r *ℤ pos 1_000_000_000) (omega (arith, signed_arith))

  by_later : (b c : ℤ) (r : A) → b ≤ℤ c → is_by at b r ≡ true → is_by at c r ≡ true
  by_later b c r le h =
      let early = int_le-true (at r *ℤ pos 1_000_000_000) b h in le_yes (at r *ℤ pos 1_000_000_000) c (omega (arith, signed_arith))

  after_later : (b : ℤ) (r q : A) → at r ≤ℤ at q → is_after at b r ≡ true → is_after at b q ≡ true
  after_later b r q le h =
      let late = int_lt-true b (at r *ℤ pos 1_000_000_000) h in lt_yes b (at q *ℤ pos 1_000_000_000) (omega (arith, signed_arith))

module _ {A : Type 0} (at : A → ℤ) (a b c : ℤ) (low : a ≤ℤ b) (high : b ≤ℤ c) where
  abbrev Meet : List A → Type 0
  Meet l = filter (is_by at b) (filter (is_after at a) l) ++ filter (is_by at c) (filter (is_after at b) l) ≡ filter (is_by at c) (filter (is_after at a) l)

  -- from a fire on that lies in the second stretch all do
  in_second : (x : A) (l : List A) → is_after at b x ≡ true → KeepsUp at (x ∷ l) → Meet (x ∷ l)
  in_second x l late up =
      let all_late : (q : A) → Among (x ∷ l) q → is_after at b q ≡ true = λ q h. elim (among-cases x l q h) [
        | inl e ↦ ap (is_after at b) e ∙ late
        | inr there ↦ after_later at b x q (up.0 q there) late
      ] in
      let from_b : filter (is_after at b) (x ∷ l) ≡ x ∷ l = filter-all (is_after at b) (x ∷ l) all_late in
      let from_a : filter (is_after at a) (x ∷ l) ≡ x ∷ l =
      filter-all (is_after at a) (x ∷ l) (λ q h. after_earlier at a b q low (all_late q h)) in
      let none : filter (is_by at b) (filter (is_after at a) (x ∷ l)) ≡ [] =
      ap (filter (is_by at b)) from_a ∙ filter-none (is_by at b) (x ∷ l) (λ q h. after-not_by at b q (all_late q h)) in
      ap (λ m. m ++ filter (is_by at c) (filter (is_after at b) (x ∷ l))) none ∙ ap (filter (is_by at c)) (from_b ∙ sym from_a)

  meet_by : (x : A) (l : List A) (in_b in_a : Bool) → is_after at b x ≡ in_b → is_after at a x ≡ in_a → KeepsUp at (x ∷ l) → Meet l → Meet (x ∷ l)
  meet_by x l true in_a late is up below = in_second x l late up
  meet_by x l false true early is up below =
      let by_b : is_by at b x ≡ true = not_after-by at b x early in
      let by_c : is_by at c x ≡ true = by_later at b c x high by_b in
      rw (is, early, by_b, by_c) (ap (λ m. x ∷ m) below)
  meet_by x l false false early is up below = rw (is, early) below

  pub meet : (l : List A) → KeepsUp at l → Meet l
  meet [] up = refl
  meet (x ∷ l) up = meet_by x l (is_after at b x) (is_after at a x) refl refl up (meet l up.1)

-- ---- in the order of a rule

module _ {A : Type 0} (at : A → ℤ) (is_past : A → A → Bool) (is_order : IsOrder is_past) where
  keeps_up : (l : List A) → AreInOrder at is_past l → KeepsUp at l
  keeps_up [] are = tt
  keeps_up (x ∷ l) are = (
    λ y h. are.keep_up x y (among-first x l) (among-rest x y l h) (are.rise.0 y h),
    keeps_up l (record { rise = are.rise.1; keep_up = λ a b one other. are.keep_up a b (among-rest x a l one) (among-rest x b l other) }),
  )

  pub joined : (l : List A) → AreInOrder at is_past l → StretchesAreJoined at l
  joined l are a b c low high = meet at a b c low high l (keeps_up l are)

  after-keeps_on : (t : ℤ) (l : List A) → AreInOrder at is_past l → order.KeepsOn is_past is_order (is_after at t) l
  after-keeps_on t l are a b one other h later = after_later at t a b (are.keep_up a b one other later) h

  past-keeps_on : (start : A) (l : List A) → order.KeepsOn is_past is_order (is_past start) l
  past-keeps_on start l a b one other h later = is_order.through start a b h later

  pub cut_after : (l : List A) → AreInOrder at is_past l → RunsGoOn at is_past l
  cut_after l are t = order.cut-passing is_past is_order (is_after at t) l (after-keeps_on t l are) are.rise

  pub cut_past : (l : List A) → AreInOrder at is_past l → RunsPastGoOn is_past l
  cut_past l are start = order.cut-passing is_past is_order (is_past start) l (past-keeps_on start l) are.rise

  pub cut_between : (l : List A) → AreInOrder at is_past l → StretchesGoOn at is_past l
  cut_between l are last now done fire rest e =
      let in_stretch = among-filter (is_by at now) (all_after at l last) fire (order.among_list-cut is_past is_order (all_between at l last now) done fire rest e) in
      let after = among-filter (is_after at last) l fire in_stretch.0 in
      let up : Rises is_past (done ++ fire ∷ rest) =
      subst (Rises is_past) e (order.rises-filter is_past is_order (is_by at now) (all_after at l last) (order.rises-filter is_past is_order (is_after at last) l are.rise)) in
      ap (filter (is_by at now)) (sym (filter-within (is_after at last) (is_past fire) l
      (λ q h later. after-keeps_on last l are fire q after.0 h after.1 later)))
      ∙ filter-swap (is_by at now) (is_past fire) (all_after at l last)
      ∙ ap (filter (is_past fire)) e
      ∙ order.cut-behind is_past is_order done fire rest up
