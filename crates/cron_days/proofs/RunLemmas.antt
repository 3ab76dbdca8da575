-- Lists of days as stretches of days in a row.
use Rattle.std.proofs.Common.{◌≡◌, ℕ, suc, ◌+◌, ◌-◌, ◌<◌, ◌≤◌, ◌==◌, nat_le, Bool, true, false, ◌||◌, List, [], ◌∷◌, ◌++◌, length, take, get_or, ◌⊎◌, inl, inr, refl, sym, ap, ◌∙◌, subst, arith}
use Rattle.std.specs.List.{list_any}
use Rattle.std.specs.List.Sorted.{IsNonDecreasing, IsNonDecreasingBy, IsPartitionPoint}
use Rattle.std.proofs.Math.Seq.{get_or-append_seam}
use Rattle.std.proofs.lemmas.Bool.{cases_lt, leb-true, leb-false, le-leb, lt-ltb}
use Rattle.std.proofs.lemmas.Bool.Decides.{nat_tests}
use Rattle.std.proofs.lemmas.List.{get_or_append_left, get_or_default, length-append}
use Rattle.std.proofs.lemmas.List.Elements.{All-from_get_or}
use Rattle.std.proofs.lemmas.List.Folds.{list_any-append, list_any_at, list_any_more, list_any_none}
use Rattle.cron_moments.specs.Civil.{days_in_range}
use Rattle.cron_days.specs.declared.runs.Run.{Run}
use Rattle.cron_days.specs.Days.{IsRow}
use Rattle.cron_days.specs.Inner.Runs.{AreApart, is_in_run, is_in_runs}

-- ---- one stretch

in_one : (n : ℕ) (run : Run) → run.first ≤ n → n < run.end → is_in_run n run ≡ true
in_one n run low high = rw (le-leb run.first n low, lt-ltb n run.end high) refl

after_one : (n : ℕ) (run : Run) → run.end ≤ n → is_in_run n run ≡ false
after_one n run past = grind (arith, nat_tests)

before_one : (n : ℕ) (run : Run) → n < run.first → is_in_run n run ≡ false
before_one n run less = grind (arith, nat_tests)

-- ---- a row among stretches

module _ (runs : List Run) (apart : AreApart runs) where
  pub ends_rise : IsNonDecreasingBy (λ (run : Run). run.end) runs
  ends_rise i j d le high = elim (cases_lt i j) [
    | inl less ↦ let one = apart.apart i j d less high in let some = apart.some j d high in omega arith
    | inr ge ↦ let same : i ≡ j = omega arith in let e : (get_or runs i d).end ≡ (get_or runs j d).end = ap (λ k. (get_or runs k d).end) same in omega arith
  ]

  within_run : (place : ℕ) (run d : Run) (k : ℕ) → place < length runs → run ≡ get_or runs place d → run.first ≤ k → k < run.end → is_in_runs runs k ≡ true
  within_run place run d k high is low less =
      list_any_at (is_in_run k) runs place d high (subst (λ r. is_in_run k r ≡ true) is (in_one k run low less))

  -- after the first so many, and before the others
  outside_runs : (place k : ℕ) (d : Run) → ((i : ℕ) → i < place → i < length runs → (get_or runs i d).end ≤ k) → ((i : ℕ) → place ≤ i → i < length runs → k < (get_or runs i d).first)
      → is_in_runs runs k ≡ false
  outside_runs place k d before after =
      list_any_none (is_in_run k) runs (All-from_get_or (λ r. is_in_run k r ≡ false) runs d
      (λ i high. elim (cases_lt i place) [
        | inl less ↦ after_one k (get_or runs i d) (before i less high)
        | inr ge ↦ before_one k (get_or runs i d) (after i ge high)
      ]))

  pub day_outside : (place k first : ℕ) (d : Run) → (0 < place → first ≡ (get_or runs (place - 1) d).end) → first ≤ k → place ≤ length runs
      → (place < length runs → k < (get_or runs place d).first) → is_in_runs runs k ≡ false
  day_outside place k first d is low fits less =
      outside_runs place k d
      (λ i before high. let rise = ends_rise i (place - 1) d (omega arith) (omega arith) in omega (arith, is (omega arith)))
      (λ i after high. elim (cases_lt place i) [
        | inl past ↦ let apart' = apart.apart place i d past high in let some = apart.some place d (omega arith) in omega (arith, less (omega arith))
        | inr le ↦ let here : i ≡ place = omega arith in subst (λ j. k < (get_or runs j d).first) (sym here) (less (omega arith))
      ])

-- ---- stretches that are made

-- the stretches that are done, and the last one, which may still grow
pub record IsGrowing (runs : List Run) (last : Run) : Type 0 where
  pub done : AreApart runs
  pub behind : (i : ℕ) (d : Run) → i < length runs → (get_or runs i d).end ≤ last.first
  pub some : last.first < last.end
  pub in_range : last.end ≤ days_in_range

at_push : (runs : List Run) (run : Run) (i : ℕ) (d : Run) → i < length (runs ++ run ∷ [])
    → ((i < length runs) × (get_or (runs ++ run ∷ []) i d ≡ get_or runs i d)) ⊎ ((i ≡ length runs) × (get_or (runs ++ run ∷ []) i d ≡ run))
at_push runs run i d h = elim (cases_lt i (length runs)) [
  | inl less ↦ inl (less, get_or_append_left runs (run ∷ []) d i less)
  | inr ge ↦
      let here : i ≡ length runs = omega (arith, length-append runs (run ∷ [])) in
      inr (here, ap (λ k. get_or (runs ++ run ∷ []) k d) here ∙ get_or-append_seam runs run [] d)
]

pub AreApart-push : (runs : List Run) (last : Run) → IsGrowing runs last → AreApart (runs ++ last ∷ [])
AreApart-push runs last is = record {
  some = λ i d h. elim (at_push runs last i d h) [
    | inl there ↦ subst (λ r. r.first < r.end) (sym there.1) (is.done.some i d there.0)
    | inr here ↦ subst (λ r. r.first < r.end) (sym here.1) is.some
  ];
  in_range = λ i d h. elim (at_push runs last i d h) [
    | inl there ↦ subst (λ r. r.end ≤ days_in_range) (sym there.1) (is.done.in_range i d there.0)
    | inr here ↦ subst (λ r. r.end ≤ days_in_range) (sym here.1) is.in_range
  ];
  apart = λ i j d less h. elim (at_push runs last j d h) [
    | inl there ↦
        subst (λ r. r.end ≤ (get_or (runs ++ last ∷ []) j d).first) (sym (get_or_append_left runs (last ∷ []) d i (omega arith)))
        (subst (λ r. (get_or runs i d).end ≤ r.first) (sym there.1) (is.done.apart i j d less there.0))
    | inr here ↦
        subst (λ r. r.end ≤ (get_or (runs ++ last ∷ []) j d).first) (sym (get_or_append_left runs (last ∷ []) d i (omega arith)))
        (subst (λ r. (get_or runs i d).end ≤ r.first) (sym here.1) (is.behind i d (omega arith)))
  ];
}

or_nothing : (b : Bool) → (b || false) ≡ b
or_nothing true = refl
or_nothing false = refl

pub in_pushed : (runs : List Run) (last : Run) (n : ℕ) → is_in_runs (runs ++ last ∷ []) n ≡ (is_in_runs runs n || is_in_run n last)
in_pushed runs last n = list_any-append (is_in_run n) runs (last ∷ []) ∙ ap (λ b. is_in_runs runs n || b) (or_nothing (is_in_run n last))

in_single : (day n : ℕ) (run : Run) → run.first ≡ day → run.end ≡ day + 1 → is_in_run n run ≡ (day == n)
in_single day n run first end = grind (arith, nat_tests)

in_longer : (last next : Run) (day n : ℕ) → last.first < last.end → day ≤ last.end → last.end ≤ day + 1 → next.first ≡ last.first → next.end ≡ day + 1
    → is_in_run n next ≡ (is_in_run n last || day == n)
in_longer last next day n some low high first end = grind (arith, nat_tests)

or_assoc : (a b c : Bool) → (a || (b || c)) ≡ ((a || b) || c)
or_assoc true b c = refl
or_assoc false b c = refl

-- the first days of an ascending list lie in the stretches so far, and the next one isn't before the last of them
pub record HaveJoined (first : ℕ) (rest : List ℕ) (i : ℕ) (runs : List Run) (last : Run) : Type 0 where
  pub growing : IsGrowing runs last
  pub same : (n : ℕ) → (is_in_runs runs n || is_in_run n last) ≡ (first == n || list_any (λ m. m == n) (take i rest))
  pub next : (k d : ℕ) → i ≤ k → k < length rest → last.end ≤ get_or rest k d + 1

pub joined-first : (first : ℕ) (rest : List ℕ) (last : Run) → IsNonDecreasing (first ∷ rest) → first < days_in_range → last.first ≡ first → last.end ≡ first + 1
    → HaveJoined first rest 0 [] last
joined-first first rest last sorted high low end = record {
  growing = record {
    done = record {
      some = λ i d h. absurd (omega arith);
      in_range = λ i d h. absurd (omega arith);
      apart = λ i j d less h. absurd (omega arith);
    };
    behind = λ i d h. absurd (omega arith);
    some = omega arith;
    in_range = omega arith;
  };
  same = λ n. in_single first n last low end ∙ sym (or_nothing (first == n));
  next = λ k d from less. let rise = sorted 0 (suc k) d (omega arith) (omega arith) in omega arith;
}

same-more : (first : ℕ) (rest : List ℕ) (i day n : ℕ) (b c : Bool) → i < length rest → day ≡ get_or rest i day
    → b ≡ (first == n || list_any (λ m. m == n) (take i rest)) → c ≡ (b || day == n) → c ≡ (first == n || list_any (λ m. m == n) (take (i + 1) rest))
same-more first rest i day n b c less is so_far now =
    now ∙ ap (λ v. v || day == n) so_far
    ∙ sym (or_assoc (first == n) (list_any (λ m. m == n) (take i rest)) (day == n))
    ∙ ap (λ v. first == n || v) (ap (λ m. list_any (λ m. m == n) (take i rest) || m == n) is ∙ sym (list_any_more (λ m. m == n) rest i day less))

-- the next day lies in the last stretch, or right behind it
pub joined-longer : (first : ℕ) (rest : List ℕ) (i day : ℕ) (runs : List Run) (last next : Run) → IsNonDecreasing (first ∷ rest) → HaveJoined first rest i runs last
    → i < length rest → day ≡ get_or rest i day → day < days_in_range → day ≤ last.end → next.first ≡ last.first → next.end ≡ day + 1
    → HaveJoined first rest (i + 1) runs next
joined-longer first rest i day runs last next sorted was less is high low from end =
    let some = was.growing.some in
    let up = was.next i day (omega arith) less in
    record {
      growing = record {
        done = was.growing.done;
        behind = λ j d h. let b = was.growing.behind j d h in omega arith;
        some = omega arith;
        in_range = omega arith;
      };
      same = λ n. same-more first rest i day n (is_in_runs runs n || is_in_run n last) (is_in_runs runs n || is_in_run n next) less is (was.same n)
          (ap (λ v. is_in_runs runs n || v) (in_longer last next day n some low (omega arith) from end) ∙ or_assoc (is_in_runs runs n) (is_in_run n last) (day == n));
      next = λ k d after fits. let rise = sorted (suc i) (suc k) day (omega arith) (omega arith) in let same_day = get_or_default rest k day d fits in omega arith;
    }

-- the next day begins a stretch
pub joined-apart : (first : ℕ) (rest : List ℕ) (i day : ℕ) (runs : List Run) (last next : Run) → IsNonDecreasing (first ∷ rest) → HaveJoined first rest i runs last
    → i < length rest → day ≡ get_or rest i day → day < days_in_range → last.end < day → next.first ≡ day → next.end ≡ day + 1
    → HaveJoined first rest (i + 1) (runs ++ last ∷ []) next
joined-apart first rest i day runs last next sorted was less is high past from end =
    let some = was.growing.some in
    record {
      growing = record {
        done = AreApart-push runs last was.growing;
        behind = λ j d h. elim (at_push runs last j d h) [
          | inl there ↦ subst (λ r. r.end ≤ next.first) (sym there.1) (let b = was.growing.behind j d there.0 in omega arith)
          | inr here ↦ subst (λ r. r.end ≤ next.first) (sym here.1) (omega arith)
        ];
        some = omega arith;
        in_range = omega arith;
      };
      same = λ n. same-more first rest i day n (is_in_runs runs n || is_in_run n last) (is_in_runs (runs ++ last ∷ []) n || is_in_run n next) less is (was.same n)
          (ap (λ v. v || is_in_run n next) (in_pushed runs last n) ∙ ap (λ v. (is_in_runs runs n || is_in_run n last) || v) (in_single day n next from end));
      next = λ k d after fits. let rise = sorted (suc i) (suc k) day (omega arith) (omega arith) in let same_day = get_or_default rest k day d fits in omega arith;
    }

-- ---- what a binary search has found

module _ (runs : List Run) (apart : AreApart runs) where
  pub row_in_run : (place day : ℕ) (run d : Run) → place < length runs → run ≡ get_or runs place d → run.first ≤ day → day < run.end
      → IsRow (is_in_runs runs) day (record { first = run.first; last = run.end - 1; allowed = true })
  row_in_run place day run d high is low less =
      let short : run.end ≤ days_in_range = subst (λ r. r.end ≤ days_in_range) (sym is) (apart.in_range place d high) in
      record {
        from = low;
        to = omega arith;
        in_range = omega arith;
        alike = λ k from to. within_run runs apart place run d k high is from (omega arith);
      }

  pub row_outside : (place day first last : ℕ) (d : Run) → place ≤ length runs → (0 < place → first ≡ (get_or runs (place - 1) d).end) → first ≤ day → day ≤ last → last < days_in_range
      → (place < length runs → last < (get_or runs place d).first) → IsRow (is_in_runs runs) day (record { first = first; last = last; allowed = false })
  row_outside place day first last d fits is low high in_range less = record {
    from = low;
    to = high;
    in_range = in_range;
    alike = λ k from to. day_outside runs apart place k first d is from fits (λ h. let l = less h in omega arith);
  }

  -- the row that starts past the stretches before the place
  pub first_low : (place day first : ℕ) (d : Run) → IsPartitionPoint (λ (run : Run). nat_le run.end day ≡ true) (λ (run : Run). nat_le run.end day ≡ false) runs place
      → (0 < place → first ≡ (get_or runs (place - 1) d).end) → (place ≡ 0 → first ≡ 0) → first ≤ day
  first_low place day first d point is none = elim (cases_lt 0 place) [
    | inl some ↦ let low = leb-true (get_or runs (place - 1) d).end day (point.0 (place - 1) d (omega arith) (omega arith)) in let e = is some in omega arith
    | inr ge ↦ let e = none (omega arith) in omega arith
  ]

  pub end_high : (place day : ℕ) (d : Run) → IsPartitionPoint (λ (run : Run). nat_le run.end day ≡ true) (λ (run : Run). nat_le run.end day ≡ false) runs place
      → place < length runs → day < (get_or runs place d).end
  end_high place day d point high = leb-false (get_or runs place d).end day (point.1 place d (omega arith) high)

pub all_joined : (runs : List Run) (last : Run) (n : ℕ) (b : Bool) → (is_in_runs runs n || is_in_run n last) ≡ b → is_in_runs (runs ++ last ∷ []) n ≡ b
all_joined runs last n b h = in_pushed runs last n ∙ h
