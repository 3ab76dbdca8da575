-- The day that is the workday nearest to another of its month, by the days of the week: of three kinds, and only these.
use Rattle.std.proofs.Common.{◌≡◌, ◌≤◌, ◌<◌, ◌+◌, ◌-◌, ◌%◌, ℕ, ℤ, ◌⊎◌, inl, inr, refl, ap, ◌∙◌, subst, arith}
use Rattle.std.proofs.lemmas.Bool.{cases_eq, cases_lt}
use Rattle.jiff_core.specs.declared.civil.date.Date.{Date}
use Rattle.jiff_core.specs.Calendar.{days_from_civil}
use Rattle.jiff_core.specs.Calendar as calendar
use Rattle.jiff_core.proofs.CalendarLemmas.{weekday_number_bound}
use Rattle.jiff_core.proofs.DateLemmas.{weekday_number-day}
use Rattle.cron_moments.specs.Calendar.{weekday_number}
use Rattle.cron_quartz_days.specs.Workdays.{IsWorkday, distance}

-- the days of the week of the days of a month, from 0 for Monday: one after another
module _ (y : ℤ) (m : ℕ) where
  pub w : ℕ → ℕ
  w j = calendar.weekday_number (days_from_civil y m j)

  moved : (i j : ℕ) → 1 ≤ i → i ≤ j → w j ≡ (w i + (j - i)) % 7
  unfolding w
  moved i j low le = weekday_number-day y m i j low le

  pub small : (j : ℕ) → w j < 7
  unfolding w
  small j = weekday_number_bound (days_from_civil y m j)

  pub work : (j : ℕ) → w j ≤ 4 → IsWorkday y m j
  unfolding w
  work j le = (omega arith, omega arith)

  pub worked : (j : ℕ) → IsWorkday y m j → w j ≤ 4
  unfolding w
  worked j h = let low = h.0 in let high = h.1 in let s = weekday_number_bound (days_from_civil y m j) in omega arith

  -- a day that is the nearest, by which of the three kinds of schedule it matches
  pub data Kind (n len d : ℕ) : Type 0 where
    itself : d ≡ n → w d ≤ 4 → Kind n len d
    monday : w d ≡ 0 → (n ≡ 1) × ((d ≡ 2) ⊎ (d ≡ 3)) ⊎ ((n ≡ 1 → ⊥) × (d ≡ n + 1)) → Kind n len d
    friday : w d ≡ 4 → n ≤ len → ((len ≡ n) × ((d ≡ n - 2) ⊎ (d ≡ n - 1))) ⊎ ((len ≡ n → ⊥) × (d ≡ n - 1)) → Kind n len d

  pub record Nearest (n len d : ℕ) : Type 0 where
    pub among : n ≤ len
    pub workday : w d ≤ 4
    pub nearest : (j : ℕ) → 1 ≤ j → j ≤ len → w j ≤ 4 → distance n d ≤ distance n j

  -- a workday other than the n-th is one away at least
  past_one : (n d j : ℕ) → distance n d ≤ 1 → (w n ≤ 4 → ⊥) → w j ≤ 4 → distance n d ≤ distance n j
  past_one n d j near off on = elim (cases_eq j n) [
    | inl e ↦ absurd (off (subst (λ k. w k ≤ 4) e on))
    | inr apart ↦ omega (arith, apart)
  ]

  off_at : (n j : ℕ) → j ≡ n → (w n ≤ 4 → ⊥) → w j ≤ 4 → ⊥
  off_at n j e off on = off (subst (λ k. w k ≤ 4) e on)

  past_two : (n k d j : ℕ) → distance n d ≤ 2 → (w n ≤ 4 → ⊥) → (w k ≤ 4 → ⊥) → w j ≤ 4 → ((j ≡ n → ⊥) → (j ≡ k → ⊥) → 2 ≤ distance n j) → distance n d ≤ distance n j
  past_two n k d j near off other on far =
      let apart = far (λ e. off_at n j e off on) (λ e. off_at k j e other on) in omega arith

  pub kind_nearest : (n len d : ℕ) → 1 ≤ n → 28 ≤ len → 1 ≤ d → d ≤ len → Kind n len d → Nearest n len d
  kind_nearest n len d some long low high (itself e on) = record { among = omega arith; workday = on; nearest = λ j a b c. omega arith }
  kind_nearest n len d some long low high (monday is (inl (one, inl e))) =
      let move = moved 1 2 (omega arith) (omega arith) in
      let here : w d ≡ w 2 = ap w e in
      let first : w n ≡ w 1 = ap w one in
      let bound = small 1 in
      record { among = omega arith; workday = omega arith; nearest = λ j a b c. past_one n d j (omega arith) (λ on. omega arith) c }
  kind_nearest n len d some long low high (monday is (inl (one, inr e))) =
      let move = moved 1 3 (omega arith) (omega arith) in
      let other = moved 2 3 (omega arith) (omega arith) in
      let here : w d ≡ w 3 = ap w e in
      let first : w n ≡ w 1 = ap w one in
      let bound = small 1 in
      let bound2 = small 2 in
      record { among = omega arith; workday = omega arith; nearest = λ j a b c. past_two n 2 d j (omega arith) (λ on. omega arith) (λ on. omega arith) c (λ x y. omega (arith, x, y)) }
  kind_nearest n len d some long low high (monday is (inr (more, e))) =
      let move = moved n (n + 1) some (omega arith) in
      let here : w d ≡ w (n + 1) = ap w e in
      let bound = small n in
      record { among = omega arith; workday = omega arith; nearest = λ j a b c. past_one n d j (omega arith) (λ on. omega arith) c }
  kind_nearest n len d some long low high (friday is among (inl (last, inl e))) =
      let move = moved d n low (omega arith) in
      let other = moved d (n - 1) low (omega arith) in
      let two : n - d ≡ 2 = omega arith in
      let one : n - 1 - d ≡ 1 = omega arith in
      let at_end : w n ≡ (w d + 2) % 7 = move ∙ ap (λ k. (w d + k) % 7) two in
      let before : w (n - 1) ≡ (w d + 1) % 7 = other ∙ ap (λ k. (w d + k) % 7) one in
      record { among = among; workday = omega arith; nearest = λ j a b c. past_two n (n - 1) d j (omega arith) (λ on. omega arith) (λ on. omega arith) c (λ x y. omega (arith, x, y)) }
  kind_nearest n len d some long low high (friday is among (inl (last, inr e))) = kind_friday n len d low is among e
    where
      kind_friday : (n len d : ℕ) → 1 ≤ d → w d ≡ 4 → n ≤ len → d ≡ n - 1 → Nearest n len d
      kind_friday n len d low is among e =
          let move = moved d n low (omega arith) in
          let one : n - d ≡ 1 = omega arith in
          let at_end : w n ≡ (w d + 1) % 7 = move ∙ ap (λ k. (w d + k) % 7) one in
          record { among = among; workday = omega arith; nearest = λ j a b c. past_one n d j (omega arith) (λ on. omega arith) c }
  kind_nearest n len d some long low high (friday is among (inr (more, e))) =
      let move = moved d n low (omega arith) in
      let one : n - d ≡ 1 = omega arith in
      let at_end : w n ≡ (w d + 1) % 7 = move ∙ ap (λ k. (w d + k) % 7) one in
      record { among = among; workday = omega arith; nearest = λ j a b c. past_one n d j (omega arith) (λ on. omega arith) c }

  -- the n-th is a Saturday
  saturday : (n len d : ℕ) → 1 ≤ n → 28 ≤ len → 1 ≤ d → d ≤ len → w n ≡ 5 → Nearest n len d → Kind n len d
  saturday n len d some long low high is near = elim (cases_eq n 1) [
    | inl one ↦
        let first : w n ≡ w 1 = ap w one in
        let two = moved 1 2 (omega arith) (omega arith) in
        let three = moved 1 3 (omega arith) (omega arith) in
        let bound = near.nearest 3 (omega arith) (omega arith) (omega arith) in
        let on = near.workday in
        elim (cases_eq d 3) [
          | inl e ↦ monday (let here : w d ≡ w 3 = ap w e in omega arith) (inl (one, inr e))
          | inr apart ↦ elim (cases_eq d 2) [
            | inl e ↦ let here : w d ≡ w 2 = ap w e in absurd (omega arith)
            | inr other ↦ let e : d ≡ 1 = omega (arith, apart, other) in let here : w d ≡ w 1 = ap w e in absurd (omega arith)
          ]
        ]
    | inr more ↦
        let move = moved (n - 1) n (omega (arith, more)) (omega arith) in
        let one : n - (n - 1) ≡ 1 = omega arith in
        let back : w n ≡ (w (n - 1) + 1) % 7 = move ∙ ap (λ k. (w (n - 1) + k) % 7) one in
        let bound7 = small (n - 1) in
        let among = near.among in
        let bound = near.nearest (n - 1) (omega (arith, more)) (omega arith) (omega arith) in
        let on = near.workday in
        elim (cases_eq d (n - 1)) [
          | inl e ↦
              let here : w d ≡ w (n - 1) = ap w e in
              let four : w d ≡ 4 = omega arith in
              elim (cases_eq len n) [ inl last ↦ friday four among (inl (last, inr e)) | inr further ↦ friday four among (inr (further, e)) ]
          | inr apart ↦ elim (cases_eq d n) [
            | inl e ↦ let here : w d ≡ w n = ap w e in absurd (omega arith)
            | inr other ↦
                let e : d ≡ n + 1 = omega (arith, apart, other) in
                let next = moved n (n + 1) some (omega arith) in
                let step : n + 1 - n ≡ 1 = omega arith in
                let after : w (n + 1) ≡ (w n + 1) % 7 = next ∙ ap (λ k. (w n + k) % 7) step in
                let here : w d ≡ w (n + 1) = ap w e in
                absurd (omega arith)
          ]
        ]
  ]

  -- the n-th is a Sunday
  sunday : (n len d : ℕ) → 1 ≤ n → 28 ≤ len → 1 ≤ d → d ≤ len → w n ≡ 6 → Nearest n len d → Kind n len d
  sunday n len d some long low high is near = elim (cases_lt n len) [
    | inl less ↦
        let next = moved n (n + 1) some (omega arith) in
        let step : n + 1 - n ≡ 1 = omega arith in
        let after : w (n + 1) ≡ (w n + 1) % 7 = next ∙ ap (λ k. (w n + k) % 7) step in
        let bound = near.nearest (n + 1) (omega arith) (omega arith) (omega arith) in
        let on = near.workday in
        elim (cases_eq d (n + 1)) [
          | inl e ↦
              let here : w d ≡ w (n + 1) = ap w e in
              let zero_day : w d ≡ 0 = omega arith in
              elim (cases_eq n 1) [ inl one ↦ monday zero_day (inl (one, inl (omega arith))) | inr more ↦ monday zero_day (inr (more, e)) ]
          | inr apart ↦ elim (cases_eq d n) [
            | inl e ↦ let here : w d ≡ w n = ap w e in absurd (omega arith)
            | inr other ↦
                let e : n - d ≡ 1 = omega (arith, apart, other) in
                let move = moved d n low (omega (arith, apart, other)) in
                let back : w n ≡ (w d + 1) % 7 = move ∙ ap (λ k. (w d + k) % 7) e in
                absurd (omega arith)
          ]
        ]
    | inr no_less ↦
        let among = near.among in
        let move = moved (n - 2) n (omega arith) (omega arith) in
        let two : n - (n - 2) ≡ 2 = omega arith in
        let back : w n ≡ (w (n - 2) + 2) % 7 = move ∙ ap (λ k. (w (n - 2) + k) % 7) two in
        let bound7 = small (n - 2) in
        let bound = near.nearest (n - 2) (omega arith) (omega arith) (omega arith) in
        let on = near.workday in
        elim (cases_eq d (n - 2)) [
          | inl e ↦ friday (let here : w d ≡ w (n - 2) = ap w e in omega arith) among (inl (omega arith, inl e))
          | inr apart ↦ elim (cases_eq d n) [
            | inl e ↦ let here : w d ≡ w n = ap w e in absurd (omega arith)
            | inr other ↦
                let e : n - d ≡ 1 = omega (arith, apart, other) in
                let last = moved d n low (omega (arith, apart, other)) in
                let one : w n ≡ (w d + 1) % 7 = last ∙ ap (λ k. (w d + k) % 7) e in
                absurd (omega arith)
          ]
        ]
  ]

  pub nearest_kind : (n len d : ℕ) → 1 ≤ n → 28 ≤ len → 1 ≤ d → d ≤ len → Nearest n len d → Kind n len d
  nearest_kind n len d some long low high near = elim (cases_lt (w n) 5) [
    | inl work_day ↦
        let bound = near.nearest n some near.among (omega arith) in
        let e : d ≡ n = omega arith in
        itself e near.workday
    | inr off ↦ elim (cases_eq (w n) 5) [
      | inl five ↦ saturday n len d some long low high five near
      | inr six ↦ let bound = small n in sunday n len d some long low high (omega (arith, six)) near
    ]
  ]

pub week_is : (d : Date) → weekday_number d ≡ (w d.year d.month d.day + 1) % 7 + 1
unfolding w
week_is d = refl
