-- A run, round by round.
use Rattle.std.proofs.Common.{◌≡◌, ℤ, ◌+◌, ◌-◌, ◌^◌, ◌*ℤ◌, pos, ℕ, true, Some, List, [], ◌∷◌, ◌++◌, inl, inr, refl, sym, ap, subst, ◌∙◌, length, append_assoc, length-append}
use Rattle.std.specs.Prelude.{Result, Ok, Err, ⊤, filter, slice_get}
use Rattle.std.specs.Option.{option_map}
use Rattle.std.proofs.lemmas.List.{append-nil}
use Rattle.jiff_core.specs.declared.Timestamp.{Timestamp}
use Rattle.cron_scheduler.specs.declared.stop.Stop.{Stop}
use Rattle.cron_scheduler.specs.declared.stop.Stop.TheVariants.{Clock, Job}
use Rattle.cron_scheduler.specs.Runs.{Event, Wait, Look, Run, Happened, ran, shown, is_due, due, next, EndsBy, HasWaited, MayFollow, RunsWhole, IsRun, Wakes, clock_calls}
use Rattle.cron_scheduler.specs.Passing.{AllPass, NonePass, RanFor, RunsDue}
use Rattle.cron_scheduler.proofs.CallLemmas.{InTurn, happened_on, ran-append, shown-append, ends_on, turn_on, none_in_turn, not_waited_yet, awake_by_look, awake_by_run}
use Rattle.cron_scheduler.proofs.PassingLemmas.{left_on, pass_on}
use Rattle.cron_scheduler.proofs.DueLemmas.{filter_begins, due-last, all_both, all_last, all_stay, filter_front, none_behind, none_stay, none_yet}

-- these calls were made, all of them went well
pub record Made {A C J E F : Type 0} (shows : C → Result Timestamp E → C → Type 0) (waits : C → Timestamp → Result ⊤ E → C → Type 0)
    (runs : J → A → Result ⊤ F → J → Type 0) (instant : A → ℤ) (fires : List A) (c : C) (j : J) (c' : C) (j' : J) (calls : List (Event A E F)) : Type 0 where
  pub happened : Happened shows waits runs calls c j c' j'
  pub in_turn : InTurn instant fires calls
  pub well : EndsBy calls (Ok tt)

-- what stands between two rounds: all that is due was run, and nothing of what is left is due
pub record Stands {A C J E F : Type 0} (shows : C → Result Timestamp E → C → Type 0) (waits : C → Timestamp → Result ⊤ E → C → Type 0)
    (runs : J → A → Result ⊤ F → J → Type 0) (instant : A → ℤ) (fires left : List A) (looks : ℕ) (c : C) (j : J) (c' : C) (j' : J) : Type 0 where
  pub calls : List (Event A E F)
  pub made : Made shows waits runs instant fires c j c' j' calls
  pub awake : HasWaited calls → ⊥
  pub split : fires ≡ ran calls ++ left
  pub all_due : AllPass (is_due instant (shown calls)) (ran calls)
  pub none_due : NonePass (is_due instant (shown calls)) left
  pub looks_are : length (shown calls) ≡ looks

pub at_first : {A C J E F : Type 0} (shows : C → Result Timestamp E → C → Type 0) (waits : C → Timestamp → Result ⊤ E → C → Type 0)
    (runs : J → A → Result ⊤ F → J → Type 0) (instant : A → ℤ) (fires : List A) (c : C) (j : J) → Stands shows waits runs instant fires fires 0 c j c j
at_first shows waits runs instant fires c j =
    record {
      calls = [];
      made = record { happened = (refl, refl); in_turn = none_in_turn instant fires; well = refl };
      awake = not_waited_yet [] refl;
      split = refl;
      all_due = tt;
      none_due = none_yet instant fires;
      looks_are = refl;
    }

-- one more call
made_on : {A C J E F : Type 0} (shows : C → Result Timestamp E → C → Type 0) (waits : C → Timestamp → Result ⊤ E → C → Type 0)
    (runs : J → A → Result ⊤ F → J → Type 0) (instant : A → ℤ) (fires : List A) (c : C) (j : J) (c1 : C) (j1 : J) (c2 : C) (j2 : J) (calls : List (Event A E F))
    (e : Event A E F) → Made shows waits runs instant fires c j c1 j1 calls → Happened shows waits runs (e ∷ []) c1 j1 c2 j2 → MayFollow instant fires calls e
    → EndsBy (e ∷ []) (Ok tt) → Made shows waits runs instant fires c j c2 j2 (calls ++ e ∷ [])
made_on shows waits runs instant fires c j c1 j1 c2 j2 calls e made one turn well =
    record {
      happened = happened_on shows waits runs calls (e ∷ []) c j c1 j1 c2 j2 made.happened one;
      in_turn = turn_on instant fires calls e made.in_turn turn;
      well = ends_on calls (e ∷ []) (Ok tt) made.well well;
    }

-- the last call, which failed
failed : {A C J E F : Type 0} (shows : C → Result Timestamp E → C → Type 0) (waits : C → Timestamp → Result ⊤ E → C → Type 0)
    (runs : J → A → Result ⊤ F → J → Type 0) (instant : A → ℤ) (fires : List A) (c : C) (j : J) (c1 : C) (j1 : J) (c2 : C) (j2 : J) (calls : List (Event A E F))
    (e : Event A E F) (stop : Stop E F) → Made shows waits runs instant fires c j c1 j1 calls → Happened shows waits runs (e ∷ []) c1 j1 c2 j2 → MayFollow instant fires calls e
    → EndsBy (e ∷ []) (Err stop) → RunsWhole instant (Err stop) fires (calls ++ e ∷ []) → IsRun (clock_calls shows waits) runs instant fires (c, j) (Err stop) (c2, j2)
failed shows waits runs instant fires c j c1 j1 c2 j2 calls e stop made one turn ends whole =
    record {
      calls = calls ++ e ∷ [];
      happened = happened_on shows waits runs calls (e ∷ []) c j c1 j1 c2 j2 made.happened one;
      in_turn = turn_on instant fires calls e made.in_turn turn;
      ends = ends_on calls (e ∷ []) (Err stop) made.well ends;
      whole = whole;
    }

get_behind : {A : Type 0} (l m : List A) (r : A) → slice_get (l ++ r ∷ m) (length l) ≡ Some r
get_behind [] m r = refl
get_behind (q ∷ l) m r = get_behind l m r

next_is : {A E F : Type 0} (fires left rest : List A) (calls : List (Event A E F)) (r : A) → fires ≡ ran calls ++ left → left ≡ r ∷ rest
    → next fires calls ≡ Some r
next_is fires left rest calls r split first =
    ap (λ l. slice_get l (length (ran calls))) (split ∙ ap (λ l. ran calls ++ l) first) ∙ get_behind (ran calls) rest r

-- the job is run for some fires, one after another
record RanOn {A C J E F : Type 0} (shows : C → Result Timestamp E → C → Type 0) (waits : C → Timestamp → Result ⊤ E → C → Type 0)
    (runs : J → A → Result ⊤ F → J → Type 0) (instant : A → ℤ) (fires rs : List A) (c : C) (j : J) (c' : C) (j' : J) (before : List (Event A E F)) : Type 0 where
  calls : List (Event A E F)
  made : Made shows waits runs instant fires c j c' j' calls
  awake : (HasWaited before → ⊥) → HasWaited calls → ⊥
  ran_is : ran calls ≡ ran before ++ rs
  shown_is : shown calls ≡ shown before

ran_for : {A C J E F : Type 0} (shows : C → Result Timestamp E → C → Type 0) (waits : C → Timestamp → Result ⊤ E → C → Type 0)
    (runs : J → A → Result ⊤ F → J → Type 0) (instant : A → ℤ) (fires rs left : List A) (c : C) (j : J) (c1 : C) (j1 : J) (j2 : J) (calls : List (Event A E F))
    → Made shows waits runs instant fires c j c1 j1 calls → RanFor runs rs j1 j2 → fires ≡ ran calls ++ (rs ++ left) → AllPass (is_due instant (shown calls)) rs
    → RanOn shows waits runs instant fires rs c j c1 j2 calls
ran_for {A} {C} {J} {E} {F} shows waits runs instant fires [] left c j c1 j1 j2 calls made went split all =
    record {
      calls = calls;
      made = subst (λ (x : J). Made shows waits runs instant fires c j c1 x calls) (sym went) made;
      awake = λ before. before;
      ran_is = sym (append-nil (ran calls));
      shown_is = refl;
    }
ran_for {A} {C} {J} {E} {F} shows waits runs instant fires (r ∷ rs) left c j c1 j1 j2 calls made went split all =
    let e : Event A E F = Run r (Ok tt) in
    let again : Made shows waits runs instant fires c j c1 went.0 (calls ++ e ∷ []) =
    made_on shows waits runs instant fires c j c1 j1 c1 went.0 calls e made (went.0, went.1, (refl, refl))
    (next_is fires (r ∷ (rs ++ left)) (rs ++ left) calls r split refl, all.0) refl in
    let ran_more : ran (calls ++ e ∷ []) ≡ ran calls ++ r ∷ [] = ran-append calls (e ∷ []) in
    let shown_more : shown (calls ++ e ∷ []) ≡ shown calls = shown-append calls (e ∷ []) ∙ append-nil (shown calls) in
    let rest = ran_for shows waits runs instant fires rs left c j c1 went.0 j2 (calls ++ e ∷ []) again went.2
    (split ∙ (sym (append_assoc (ran calls) (r ∷ []) (rs ++ left)) ∙ ap (λ l. l ++ (rs ++ left)) (sym ran_more)))
    (subst (λ (ts : List Timestamp). AllPass (is_due instant ts) rs) (sym shown_more) all.1) in
    record {
      calls = rest.calls;
      made = rest.made;
      awake = λ before. rest.awake (awake_by_run calls r);
      ran_is = rest.ran_is ∙ (ap (λ l. l ++ rs) ran_more ∙ append_assoc (ran calls) (r ∷ []) rs);
      shown_is = rest.shown_is ∙ shown_more;
    }

-- ---- a round

whole : {A C J E F : Type 0} (shows : C → Result Timestamp E → C → Type 0) (waits : C → Timestamp → Result ⊤ E → C → Type 0)
    (runs : J → A → Result ⊤ F → J → Type 0) (instant : A → ℤ) (fires left : List A) (looks : ℕ) (c : C) (j : J) (c1 : C) (j1 : J)
    (st : Stands shows waits runs instant fires left looks c j c1 j1) → ran st.calls ≡ due instant fires st.calls
whole shows waits runs instant fires left looks c j c1 j1 st =
    filter_front (is_due instant (shown st.calls)) fires (ran st.calls) left st.split st.all_due st.none_due

-- nothing is left
pub ended : {A C J E F : Type 0} (shows : C → Result Timestamp E → C → Type 0) (waits : C → Timestamp → Result ⊤ E → C → Type 0)
    (runs : J → A → Result ⊤ F → J → Type 0) (instant : A → ℤ) (fires left : List A) (looks : ℕ) (c : C) (j : J) (c1 : C) (j1 : J)
    → Stands shows waits runs instant fires left looks c j c1 j1 → left ≡ [] → IsRun (clock_calls shows waits) runs instant fires (c, j) (Ok tt) (c1, j1)
ended shows waits runs instant fires left looks c j c1 j1 st none =
    record {
      calls = st.calls;
      happened = st.made.happened;
      in_turn = st.made.in_turn;
      ends = st.made.well;
      whole = (whole shows waits runs instant fires left looks c j c1 j1 st, inl (sym (st.split ∙ (ap (λ l. ran st.calls ++ l) none ∙ append-nil (ran st.calls)))), st.awake);
    }

-- the clock was read as often as it may be
pub spent : {A C J E F : Type 0} (shows : C → Result Timestamp E → C → Type 0) (waits : C → Timestamp → Result ⊤ E → C → Type 0)
    (runs : J → A → Result ⊤ F → J → Type 0) (instant : A → ℤ) (fires left : List A) (looks : ℕ) (c : C) (j : J) (c1 : C) (j1 : J)
    → Stands shows waits runs instant fires left looks c j c1 j1 → looks ≡ 2 ^ 64 - 1 → IsRun (clock_calls shows waits) runs instant fires (c, j) (Ok tt) (c1, j1)
spent shows waits runs instant fires left looks c j c1 j1 st all =
    record {
      calls = st.calls;
      happened = st.made.happened;
      in_turn = st.made.in_turn;
      ends = st.made.well;
      whole = (whole shows waits runs instant fires left looks c j c1 j1 st, inr (st.looks_are ∙ all), st.awake);
    }

wait_turn : {A C J E F : Type 0} (shows : C → Result Timestamp E → C → Type 0) (waits : C → Timestamp → Result ⊤ E → C → Type 0)
    (runs : J → A → Result ⊤ F → J → Type 0)
    (instant : A → ℤ) (fires left rest : List A) (looks : ℕ) (c : C) (j : J) (c1 : C) (j1 : J) (r : A) (t : Timestamp) (answer : Result ⊤ E)
    (st : Stands shows waits runs instant fires left looks c j c1 j1) → left ≡ r ∷ rest → t.nanosecond ≡ instant r *ℤ pos 1_000_000_000
    → MayFollow instant fires st.calls (Wait t answer)
wait_turn shows waits runs instant fires left rest looks c j c1 j1 r t answer st first at = (
  st.awake,
  whole shows waits runs instant fires left looks c j c1 j1 st,
  ap (option_map (λ q. instant q *ℤ pos 1_000_000_000)) (next_is fires left rest st.calls r st.split first) ∙ ap Some (sym at),
)

-- a call by which nothing is run and nothing is shown
quiet : {A E F : Type 0} (instant : A → ℤ) (fires : List A) (calls : List (Event A E F)) (e : Event A E F) → ran (e ∷ []) ≡ [] → shown (e ∷ []) ≡ []
    → ran calls ≡ due instant fires calls → ran (calls ++ e ∷ []) ≡ due instant fires (calls ++ e ∷ [])
quiet instant fires calls e still dark h =
    let same_ran : ran (calls ++ e ∷ []) ≡ ran calls = ran-append calls (e ∷ []) ∙ (ap (λ l. ran calls ++ l) still ∙ append-nil (ran calls)) in
    let same_shown : shown (calls ++ e ∷ []) ≡ shown calls = shown-append calls (e ∷ []) ∙ (ap (λ l. shown calls ++ l) dark ∙ append-nil (shown calls)) in
    same_ran ∙ (h ∙ ap (λ ts. filter (is_due instant ts) fires) (sym same_shown))

wait_fails : {A C J E F : Type 0} (shows : C → Result Timestamp E → C → Type 0) (waits : C → Timestamp → Result ⊤ E → C → Type 0)
    (runs : J → A → Result ⊤ F → J → Type 0)
    (instant : A → ℤ) (fires left rest : List A) (looks : ℕ) (c : C) (j : J) (c1 : C) (j1 : J) (c2 : C) (r : A) (t : Timestamp) (e : E)
    → Stands shows waits runs instant fires left looks c j c1 j1 → left ≡ r ∷ rest → t.nanosecond ≡ instant r *ℤ pos 1_000_000_000 → waits c1 t (Err e) c2
    → IsRun (clock_calls shows waits) runs instant fires (c, j) (Err (Clock e)) (c2, j1)
wait_fails {A} {C} {J} {E} {F} shows waits runs instant fires left rest looks c j c1 j1 c2 r t e st first at waited =
    let call : Event A E F = Wait t (Err e) in
    failed shows waits runs instant fires c j c1 j1 c2 j1 st.calls call (Clock e) st.made (c2, waited, (refl, refl))
    (wait_turn shows waits runs instant fires left rest looks c j c1 j1 r t (Err e) st first at) (refl, refl)
    (quiet instant fires st.calls call refl refl (whole shows waits runs instant fires left looks c j c1 j1 st))

after_wait : {A C J E F : Type 0} (shows : C → Result Timestamp E → C → Type 0) (waits : C → Timestamp → Result ⊤ E → C → Type 0)
    (runs : J → A → Result ⊤ F → J → Type 0)
    (instant : A → ℤ) (fires left rest : List A) (looks : ℕ) (c : C) (j : J) (c1 : C) (j1 : J) (c2 : C) (r : A) (t : Timestamp)
    (st : Stands shows waits runs instant fires left looks c j c1 j1) → left ≡ r ∷ rest → t.nanosecond ≡ instant r *ℤ pos 1_000_000_000 → waits c1 t (Ok tt) c2
    → Made shows waits runs instant fires c j c2 j1 (st.calls ++ Wait t (Ok tt) ∷ [])
after_wait {A} {C} {J} {E} {F} shows waits runs instant fires left rest looks c j c1 j1 c2 r t st first at waited =
    let call : Event A E F = Wait t (Ok tt) in
    made_on shows waits runs instant fires c j c1 j1 c2 j1 st.calls call st.made (c2, waited, (refl, refl))
    (wait_turn shows waits runs instant fires left rest looks c j c1 j1 r t (Ok tt) st first at) refl

look_fails : {A C J E F : Type 0} (shows : C → Result Timestamp E → C → Type 0) (waits : C → Timestamp → Result ⊤ E → C → Type 0)
    (runs : J → A → Result ⊤ F → J → Type 0)
    (instant : A → ℤ) (fires left rest : List A) (looks : ℕ) (c : C) (j : J) (c1 : C) (j1 : J) (c2 c3 : C) (r : A) (t : Timestamp) (e : E)
    → Stands shows waits runs instant fires left looks c j c1 j1 → left ≡ r ∷ rest → t.nanosecond ≡ instant r *ℤ pos 1_000_000_000 → waits c1 t (Ok tt) c2
    → shows c2 (Err e) c3 → IsRun (clock_calls shows waits) runs instant fires (c, j) (Err (Clock e)) (c3, j1)
look_fails {A} {C} {J} {E} {F} shows waits runs instant fires left rest looks c j c1 j1 c2 c3 r t e st first at waited looked =
    let wait : Event A E F = Wait t (Ok tt) in
    let call : Event A E F = Look (Err e) in
    failed shows waits runs instant fires c j c2 j1 c3 j1 (st.calls ++ wait ∷ []) call (Clock e)
    (after_wait shows waits runs instant fires left rest looks c j c1 j1 c2 r t st first at waited) (c3, looked, (refl, refl)) (st.calls, t, refl) (refl, refl)
    (quiet instant fires (st.calls ++ wait ∷ []) call refl refl (quiet instant fires st.calls wait refl refl (whole shows waits runs instant fires left looks c j c1 j1 st)))

-- the clock was waited for and read
record Looked {A C J E F : Type 0} (shows : C → Result Timestamp E → C → Type 0) (waits : C → Timestamp → Result ⊤ E → C → Type 0)
    (runs : J → A → Result ⊤ F → J → Type 0)
    (instant : A → ℤ) (fires : List A) (c : C) (j : J) (c' : C) (j' : J) (now : Timestamp) (before : List (Event A E F)) : Type 0 where
  calls : List (Event A E F)
  made : Made shows waits runs instant fires c j c' j' calls
  awake : HasWaited calls → ⊥
  ran_is : ran calls ≡ ran before
  shown_is : shown calls ≡ shown before ++ now ∷ []

after_look : {A C J E F : Type 0} (shows : C → Result Timestamp E → C → Type 0) (waits : C → Timestamp → Result ⊤ E → C → Type 0)
    (runs : J → A → Result ⊤ F → J → Type 0)
    (instant : A → ℤ) (fires left rest : List A) (looks : ℕ) (c : C) (j : J) (c1 : C) (j1 : J) (c2 c3 : C) (r : A) (t now : Timestamp)
    (st : Stands shows waits runs instant fires left looks c j c1 j1) → left ≡ r ∷ rest → t.nanosecond ≡ instant r *ℤ pos 1_000_000_000 → waits c1 t (Ok tt) c2
    → shows c2 (Ok now) c3 → Looked shows waits runs instant fires c j c3 j1 now st.calls
after_look {A} {C} {J} {E} {F} shows waits runs instant fires left rest looks c j c1 j1 c2 c3 r t now st first at waited looked =
    let wait : Event A E F = Wait t (Ok tt) in
    let call : Event A E F = Look (Ok now) in
    record {
      calls = (st.calls ++ wait ∷ []) ++ call ∷ [];
      made = made_on shows waits runs instant fires c j c2 j1 c3 j1 (st.calls ++ wait ∷ []) call
          (after_wait shows waits runs instant fires left rest looks c j c1 j1 c2 r t st first at waited) (c3, looked, (refl, refl)) (st.calls, t, refl) refl;
      awake = awake_by_look (st.calls ++ wait ∷ []) now;
      ran_is = ran-append (st.calls ++ wait ∷ []) (call ∷ []) ∙ (append-nil (ran (st.calls ++ wait ∷ []))
          ∙ (ran-append st.calls (wait ∷ []) ∙ append-nil (ran st.calls)));
      shown_is = shown-append (st.calls ++ wait ∷ []) (call ∷ [])
          ∙ ap (λ l. l ++ now ∷ []) (shown-append st.calls (wait ∷ []) ∙ append-nil (shown st.calls));
    }

pub job_fails : {A C J E F : Type 0} (shows : C → Result Timestamp E → C → Type 0) (waits : C → Timestamp → Result ⊤ E → C → Type 0)
    (runs : J → A → Result ⊤ F → J → Type 0)
    (instant : A → ℤ) (fires left after rest : List A) (looks : ℕ) (c : C) (j : J) (c1 : C) (j1 : J) (c2 : C) (j2 : J) (r : A) (t now :
    Timestamp) (f : F)
    → Stands shows waits runs instant fires left looks c j c1 j1 → left ≡ r ∷ rest → t.nanosecond ≡ instant r *ℤ pos 1_000_000_000 → Wakes shows waits t c1 (Ok now) c2
    → RunsDue instant runs now.nanosecond (left, j1) (Err f) (after, j2) → IsRun (clock_calls shows waits) runs instant fires (c, j) (Err (Job f)) (c2, j2)
job_fails {A} {C} {J} {E} {F} shows waits runs instant fires left after rest looks c j c1 j1 c2 j2 r t now f st first at wakes ran_due =
    let (rs, mid, q, behind, went, fails, parts, at_q, all, due_q) = ran_due in
    let call : Event A E F = Run q (Err f) in
    let l = after_look shows waits runs instant fires left rest looks c j c1 j1 wakes.0 c2 r t now st first at wakes.1 wakes.2 in
    let split : fires ≡ ran l.calls ++ (rs ++ after) = st.split ∙ (ap (λ xs. ran st.calls ++ xs) parts ∙ ap (λ xs. xs ++ (rs ++ after)) (sym l.ran_is)) in
    let o = ran_for shows waits runs instant fires rs after c j c2 j1 mid l.calls l.made went split
    (subst (λ (ts : List Timestamp). AllPass (is_due instant ts) rs) (sym l.shown_is) (all_last instant (shown st.calls) now rs all)) in
    let behind_rs : fires ≡ ran o.calls ++ after = split ∙ (sym (append_assoc (ran l.calls) rs after) ∙ ap (λ xs. xs ++ after) (sym o.ran_is)) in
    let times_are : shown o.calls ≡ shown st.calls ++ now ∷ [] = o.shown_is ∙ l.shown_is in
    let due_last = subst (λ (ts : List Timestamp). is_due instant ts q ≡ true) (sym times_are) (due-last instant (shown st.calls) now q due_q) in
    let done_due : AllPass (is_due instant (shown o.calls)) (ran o.calls) =
    subst (λ (ts : List Timestamp). AllPass (is_due instant ts) (ran o.calls)) (sym times_are)
    (subst (λ (xs : List A). AllPass (is_due instant (shown st.calls ++ now ∷ [])) xs) (sym (o.ran_is ∙ ap (λ xs. xs ++ rs) l.ran_is))
    (all_both (is_due instant (shown st.calls ++ now ∷ [])) (ran st.calls) rs (all_stay instant (shown st.calls) now (ran st.calls) st.all_due)
    (all_last instant (shown st.calls) now rs all))) in
    let same_ran : ran (o.calls ++ call ∷ []) ≡ ran o.calls ++ q ∷ [] = ran-append o.calls (call ∷ []) in
    let same_shown : shown (o.calls ++ call ∷ []) ≡ shown o.calls = shown-append o.calls (call ∷ []) ∙ append-nil (shown o.calls) in
    let parted : fires ≡ (ran o.calls ++ q ∷ []) ++ behind = left_on fires (ran o.calls) after behind q behind_rs at_q in
    failed shows waits runs instant fires c j c2 mid c2 j2 o.calls call (Job f) o.made (j2, fails, (refl, refl))
    (next_is fires after behind o.calls q behind_rs at_q, due_last)
    (refl, refl) (
      filter (is_due instant (shown o.calls)) behind,
      ap (λ ts. filter (is_due instant ts) fires) same_shown
          ∙ (filter_begins (is_due instant (shown o.calls)) fires (ran o.calls ++ q ∷ []) behind parted (pass_on (is_due instant (shown o.calls)) (ran o.calls) q
          done_due due_last)
          ∙ ap (λ l. l ++ filter (is_due instant (shown o.calls)) behind) (sym same_ran)),
    )

pub round : {A C J E F : Type 0} (shows : C → Result Timestamp E → C → Type 0) (waits : C → Timestamp → Result ⊤ E → C → Type 0)
    (runs : J → A → Result ⊤ F → J → Type 0)
    (instant : A → ℤ) (fires left after rest : List A) (looks : ℕ) (c : C) (j : J) (c1 : C) (j1 : J) (c2 : C) (j2 : J) (r : A) (t now : Timestamp)
    → Stands shows waits runs instant fires left looks c j c1 j1 → left ≡ r ∷ rest → t.nanosecond ≡ instant r *ℤ pos 1_000_000_000 → Wakes shows waits t c1 (Ok now) c2
    → RunsDue instant runs now.nanosecond (left, j1) (Ok tt) (after, j2) → Stands shows waits runs instant fires after (looks + 1) c j c2 j2
round {A} {C} {J} {E} {F} shows waits runs instant fires left after rest looks c j c1 j1 c2 j2 r t now st first at wakes ran_due =
    let (rs, went, parts, all, none) = ran_due in
    let l = after_look shows waits runs instant fires left rest looks c j c1 j1 wakes.0 c2 r t now st first at wakes.1 wakes.2 in
    let split : fires ≡ ran l.calls ++ (rs ++ after) = st.split ∙ (ap (λ xs. ran st.calls ++ xs) parts ∙ ap (λ xs. xs ++ (rs ++ after)) (sym l.ran_is)) in
    let now_due = all_last instant (shown st.calls) now rs all in
    let o = ran_for shows waits runs instant fires rs after c j c2 j1 j2 l.calls l.made went split
    (subst (λ (ts : List Timestamp). AllPass (is_due instant ts) rs) (sym l.shown_is) now_due) in
    let times_are : shown o.calls ≡ shown st.calls ++ now ∷ [] = o.shown_is ∙ l.shown_is in
    let ran_are : ran o.calls ≡ ran st.calls ++ rs = o.ran_is ∙ ap (λ xs. xs ++ rs) l.ran_is in
    let late_before : NonePass (is_due instant (shown st.calls)) after = none_behind (is_due instant (shown st.calls)) rs after
    (subst (λ (xs : List A). NonePass (is_due instant (shown st.calls)) xs) parts st.none_due) in
    record {
      calls = o.calls;
      made = o.made;
      awake = o.awake l.awake;
      split = split ∙ (sym (append_assoc (ran l.calls) rs after) ∙ ap (λ xs. xs ++ after) (sym o.ran_is));
      all_due = subst (λ (ts : List Timestamp). AllPass (is_due instant ts) (ran o.calls)) (sym times_are)
          (subst (λ (xs : List A). AllPass (is_due instant (shown st.calls ++ now ∷ [])) xs) (sym ran_are)
          (all_both (is_due instant (shown st.calls ++ now ∷ [])) (ran st.calls) rs (all_stay instant (shown st.calls) now (ran st.calls) st.all_due) now_due));
      none_due = subst (λ (ts : List Timestamp). NonePass (is_due instant ts) after) (sym times_are) (none_stay instant (shown st.calls) now after none late_before);
      looks_are = ap length times_are ∙ (length-append (shown st.calls) (now ∷ []) ∙ ap (λ n. n + 1) st.looks_are);
    }

pub clock_fails : {A C J E F : Type 0} (shows : C → Result Timestamp E → C → Type 0) (waits : C → Timestamp → Result ⊤ E → C → Type 0)
    (runs : J → A → Result ⊤ F → J → Type 0) (instant : A → ℤ) (fires left rest : List A) (looks : ℕ) (c : C) (j : J) (c1 : C) (j1 : J) (c2 : C) (r : A)
    (t : Timestamp) (e : E) → Stands shows waits runs instant fires left looks c j c1 j1 → left ≡ r ∷ rest → t.nanosecond ≡ instant r *ℤ pos 1_000_000_000
    → Wakes shows waits t c1 (Err e) c2 → IsRun (clock_calls shows waits) runs instant fires (c, j) (Err (Clock e)) (c2, j1)
clock_fails shows waits runs instant fires left rest looks c j c1 j1 c2 r t e st first at wakes = elim wakes [
  | inl waited ↦ wait_fails shows waits runs instant fires left rest looks c j c1 j1 c2 r t e st first at waited
  | inr looked ↦ look_fails shows waits runs instant fires left rest looks c j c1 j1 looked.0 c2 r t e st first at looked.1 looked.2
]
