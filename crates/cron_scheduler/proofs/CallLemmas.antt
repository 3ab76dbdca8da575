-- Calls one after another.
use Rattle.std.proofs.Common.{◌≡◌, ℤ, Option, Some, None, List, [], ◌∷◌, ◌++◌, ◌⊎◌, inl, inr, refl, sym, ap, subst, ◌∙◌}
use Rattle.std.specs.Prelude.{Result, Ok, Err, ⊤, MatchOption}
use Rattle.jiff_core.specs.declared.Timestamp.{Timestamp}
use Rattle.cron_scheduler.specs.declared.stop.Stop.{Stop}
use Rattle.cron_scheduler.specs.Runs.{Event, Wait, Look, Run, Happened, ran, shown, failure, EndsBy, HasWaited, MayFollow}

pub happened_on : {A C J E F : Type 0} (shows : C → Result Timestamp E → C → Type 0) (waits : C → Timestamp → Result ⊤ E → C → Type 0)
    (runs : J → A → Result ⊤ F → J → Type 0) (es fs : List (Event A E F)) (c : C) (j : J) (c1 : C) (j1 : J) (c2 : C) (j2 : J)
    → Happened shows waits runs es c j c1 j1 → Happened shows waits runs fs c1 j1 c2 j2 → Happened shows waits runs (es ++ fs) c j c2 j2
happened_on shows waits runs [] fs c j c1 j1 c2 j2 h k =
    subst (λ x. Happened shows waits runs fs x j c2 j2) h.0 (subst (λ y. Happened shows waits runs fs c1 y c2 j2) h.1 k)
happened_on shows waits runs (Wait t answer ∷ es) fs c j c1 j1 c2 j2 h k = (h.0, h.1, happened_on shows waits runs es fs h.0 j c1 j1 c2 j2 h.2 k)
happened_on shows waits runs (Look answer ∷ es) fs c j c1 j1 c2 j2 h k = (h.0, h.1, happened_on shows waits runs es fs h.0 j c1 j1 c2 j2 h.2 k)
happened_on shows waits runs (Run r answer ∷ es) fs c j c1 j1 c2 j2 h k = (h.0, h.1, happened_on shows waits runs es fs c h.0 c1 j1 c2 j2 h.2 k)

pub ran-append : {A E F : Type 0} (es fs : List (Event A E F)) → ran (es ++ fs) ≡ ran es ++ ran fs
ran-append [] fs = refl
ran-append (Wait t answer ∷ es) fs = ran-append es fs
ran-append (Look answer ∷ es) fs = ran-append es fs
ran-append (Run r answer ∷ es) fs = ap (λ l. r ∷ l) (ran-append es fs)

pub shown-append : {A E F : Type 0} (es fs : List (Event A E F)) → shown (es ++ fs) ≡ shown es ++ shown fs
shown-append [] fs = refl
shown-append (Wait t answer ∷ es) fs = shown-append es fs
shown-append (Look (Ok t) ∷ es) fs = ap (λ l. t ∷ l) (shown-append es fs)
shown-append (Look (Err e) ∷ es) fs = shown-append es fs
shown-append (Run r answer ∷ es) fs = shown-append es fs

-- nothing failed
abbrev well : (E F : Type 0) → Result ⊤ (Stop E F)
well E F = Ok tt

ends_by : {A E F : Type 0} (f : Option (Stop E F)) (es fs : List (Event A E F)) (answer : Result ⊤ (Stop E F))
    → (EndsBy es (Ok tt) → EndsBy (es ++ fs) answer)
    → MatchOption f (EndsBy es (Ok tt)) (λ stop. (es ≡ []) × (well E F ≡ Err stop))
    → MatchOption f (EndsBy (es ++ fs) answer) (λ stop. (es ++ fs ≡ []) × (answer ≡ Err stop))
ends_by None es fs answer on h = on h
ends_by (Some stop) es fs answer on h = let apart = h.1 in absurd (cc)

-- nothing has failed before
pub ends_on : {A E F : Type 0} (es fs : List (Event A E F)) (answer : Result ⊤ (Stop E F)) → EndsBy es (Ok tt) → EndsBy fs answer → EndsBy (es ++ fs) answer
ends_on [] fs answer h k = k
ends_on (e ∷ es) fs answer h k = ends_by (failure e) es fs answer (λ m. ends_on es fs answer m k) h

-- each call was made in its turn
abbrev pub InTurn : {A E F : Type 0} → (A → ℤ) → List A → List (Event A E F) → Type 0
InTurn {A} {E} {F} instant fires calls = (before after : List (Event A E F)) (e : Event A E F) → calls ≡ before ++ e ∷ after → MayFollow instant fires before e

nothing_is : {A : Type 0} (before after : List A) (e : A) → [] ≡ before ++ e ∷ after → ⊥
nothing_is [] after e h = cc
nothing_is (b ∷ before) after e h = cc

split_last : {A : Type 0} (es before after : List A) (last e : A) → es ++ last ∷ [] ≡ before ++ e ∷ after
    → ((before ≡ es) × (e ≡ last)) ⊎ ((more : List A) × (es ≡ before ++ e ∷ more))
split_last [] [] after last e h = let same : e ≡ last = cc in inl (refl, same)
split_last {A} [] (b ∷ before) after last e h =
    let none : [] ≡ before ++ e ∷ after = cc in absurd (nothing_is before after e none)
split_last {A} (x ∷ es) [] after last e h = let same : x ≡ e = cc in inr (es, ap (λ y. y ∷ es) same)
split_last {A} (x ∷ es) (b ∷ before) after last e h =
    let same : x ≡ b = cc in
    let tails : es ++ last ∷ [] ≡ before ++ e ∷ after = cc in
    elim (split_last es before after last e tails) [
      | inl here ↦ let place = here.0 in inl (ap (λ l. b ∷ l) place ∙ ap (λ y. y ∷ es) (sym same), here.1)
      | inr there ↦ inr (there.0, ap (λ y. y ∷ es) same ∙ ap (λ l. b ∷ l) there.1)
    ]

pub turn_on : {A E F : Type 0} (instant : A → ℤ) (fires : List A) (es : List (Event A E F)) (last : Event A E F) → InTurn instant fires es → MayFollow instant fires es last
    → InTurn instant fires (es ++ last ∷ [])
turn_on {A} {E} {F} instant fires es last turns next before after e h =
    elim (split_last es before after last e h) [
      | inl here ↦ subst (λ (x : Event A E F). MayFollow instant fires before x) (sym here.1) (subst (λ (l : List (Event A E F)). MayFollow instant fires l last) (sym here.0) next)
      | inr there ↦ turns before there.0 e there.1
    ]

last_is : {A : Type 0} (es fs : List A) (x y : A) → es ++ x ∷ [] ≡ fs ++ y ∷ [] → x ≡ y
last_is [] [] x y h = cc
last_is {A} [] (f ∷ fs) x y h = let none : [] ≡ fs ++ y ∷ [] = cc in absurd (nothing_is fs [] y none)
last_is {A} (e ∷ es) [] x y h = let none : [] ≡ es ++ x ∷ [] = cc in absurd (nothing_is es [] x none)
last_is {A} (e ∷ es) (f ∷ fs) x y h = let tails : es ++ x ∷ [] ≡ fs ++ y ∷ [] = cc in last_is es fs x y tails

pub not_waited_yet : {A E F : Type 0} (none : List (Event A E F)) → none ≡ [] → HasWaited none → ⊥
not_waited_yet {A} {E} {F} none is w = let wait : Event A E F = Wait w.1 (Ok tt) in nothing_is w.0 [] wait (sym is ∙ w.2)

-- the last call was another
looked_last : {A E F : Type 0} (now u : Timestamp) (look wait : Event A E F) → look ≡ Look (Ok now) → wait ≡ Wait u (Ok tt) → look ≡ wait → ⊥
looked_last now u look wait is_look is_wait same = cc

ran_last : {A E F : Type 0} (r : A) (u : Timestamp) (run wait : Event A E F) → run ≡ Run r (Ok tt) → wait ≡ Wait u (Ok tt) → run ≡ wait → ⊥
ran_last r u run wait is_run is_wait same = cc

pub awake_by_look : {A E F : Type 0} (es : List (Event A E F)) (now : Timestamp) → HasWaited (es ++ Look (Ok now) ∷ []) → ⊥
awake_by_look {A} {E} {F} es now w =
    let look : Event A E F = Look (Ok now) in
    let wait : Event A E F = Wait w.1 (Ok tt) in
    looked_last now w.1 look wait refl refl (last_is es w.0 look wait w.2)

pub awake_by_run : {A E F : Type 0} (es : List (Event A E F)) (r : A) → HasWaited (es ++ Run r (Ok tt) ∷ []) → ⊥
awake_by_run {A} {E} {F} es r w =
    let run : Event A E F = Run r (Ok tt) in
    let wait : Event A E F = Wait w.1 (Ok tt) in
    ran_last r w.1 run wait refl refl (last_is es w.0 run wait w.2)

pub none_in_turn : {A E F : Type 0} (instant : A → ℤ) (fires : List A) → InTurn {A = A} {E = E} {F = F} instant fires []
none_in_turn instant fires before after e h = absurd (nothing_is before after e h)
