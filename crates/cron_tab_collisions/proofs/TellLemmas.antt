-- Reports of entries, so far.
use Rattle.std.proofs.Common.{inr, ◌≡◌, ◌<◌, ◌≤◌, ◌+◌, ℕ, zero, suc, Some, List, [], ◌∷◌, ◌++◌, map, drop, length, get_or, take, ◌-◌, ℤ, ap, sym, ◌∙◌, refl, subst, append_assoc, append-nil, add-one, arith, length-drop}
use Rattle.std.proofs.Math.Seq.{drop-cons}
use Rattle.std.proofs.lemmas.List.{drop_all, length-map, take_all}
use Rattle.std.proofs.lemmas.Option.{slice_get_read, slice_get_within}
use Rattle.cron_agenda.specs.Fires.{instant}
use Rattle.cron_agenda.specs.declared.fire.EntryFire.{EntryFire}
use Rattle.cron_collisions.specs.Collisions.{AreCollisions, Ascends}
use Rattle.cron_collisions.specs.declared.collisions.Collisions.{Collisions}
use Rattle.cron_replies.specs.declared.form.Form.{Form}
use Rattle.cron_tab_fires.specs.Entries.{Given, TabFires, entries_in, seconds, view}
use Rattle.cron_tab_fires.specs.Laws.{AllAscend}
use Rattle.cron_tab_fires.specs.declared.entries.TabFires as code
use Rattle.cron_tab_fires.specs.declared.error.FiresError.TheVariants.{OutOfMemory}
use Rattle.cron_tab_fires.proofs.AscendLemmas.{all_ascend-append, entries_ascend}
use Rattle.cron_tab_lines.specs.Files.{file_lines}
use Rattle.cron_tab_lines.specs.Views.{bytes_view}
use Rattle.cron_tab_agenda.specs.declared.tab_file.TabFile.{TabFile}
use Rattle.cron_tab_collisions.specs.Collisions.{IsFilesError, TellsAll, TellsPair, TellsWith, entries_of}
use Rattle.cron_replies.specs.Inner.Telling.{AppendsTold}
use Rattle.cron_tab_collisions.specs.Rows.{later, row}

-- what is told of those that are left makes what is told of all
abbrev pub IsSoFar : (List TabFires → List ℕ → Type 0) → List TabFires → List TabFires → List ℕ → List ℕ → Type 0
IsSoFar Tells all left begun now = (rest : List ℕ) → Tells left rest → AppendsTold (Tells all) begun (now ++ rest)

pub begun : (Tells : List TabFires → List ℕ → Type 0) (all : List TabFires) (now : List ℕ) → IsSoFar Tells all all now now
begun Tells all now = λ rest tells. (rest, refl, tells)

-- one more was told of
pub told_with : (form : Form) (d : ℕ) (a b : TabFires) (all left rest : List TabFires) (old now new : List ℕ) → IsSoFar (TellsWith form d a) all left old now → left ≡ b ∷ rest
    → AppendsTold (TellsPair form d a b) now new → IsSoFar (TellsWith form d a) all rest old new
told_with form d a b all left rest old now new so_far cut (here, e, tells) = λ more others.
    subst (λ (l : List ℕ). AppendsTold (TellsWith form d a all) old l) (sym (ap (λ (l : List ℕ). l ++ more) e ∙ append_assoc now here more))
    (so_far (here ++ more) (subst (λ (l : List TabFires). TellsWith form d a l (here ++ more)) (sym cut) (here, more, refl, tells, others)))

pub told_each : (form : Form) (d : ℕ) (b : TabFires) (all left rest : List TabFires) (old now new : List ℕ) → IsSoFar (TellsAll form d) all left old now → left ≡ b ∷ rest
    → AppendsTold (TellsWith form d b rest) now new → IsSoFar (TellsAll form d) all rest old new
told_each form d b all left rest old now new so_far cut (here, e, tells) = λ more others.
    subst (λ (l : List ℕ). AppendsTold (TellsAll form d all) old l) (sym (ap (λ (l : List ℕ). l ++ more) e ∙ append_assoc now here more))
    (so_far (here ++ more) (subst (λ (l : List TabFires). TellsAll form d l (here ++ more)) (sym cut) (here, more, refl, tells, others)))

-- all were told of
pub told_all : (Tells : List TabFires → List ℕ → Type 0) (all left : List TabFires) (old now : List ℕ) → IsSoFar Tells all left old now → left ≡ []
    → Tells [] [] → AppendsTold (Tells all) old now
told_all Tells all left old now so_far none empty =
    subst (λ (l : List ℕ). AppendsTold (Tells all) old l) (append-nil now) (so_far [] (subst (λ (l : List TabFires). Tells l []) (sym none) empty))

-- nothing was told
pub nothing_told : (Tells : List ℕ → Type 0) (now : List ℕ) → Tells [] → AppendsTold Tells now now
nothing_told Tells now tells = ([], sym (append-nil now), tells)

-- the row of two entries that collide
pub pair_told : (form : Form) (d : ℕ) (a b : TabFires) (ss ts : List ℤ) (found : Collisions) (f g fire : EntryFire) (old new : List ℕ) → AreCollisions d ss ts (Some found)
    → ss ≡ seconds a → ts ≡ seconds b → f ≡ get_or a.fires found.first f → g ≡ get_or b.fires found.second g → fire ≡ later f g
    → new ≡ old ++ row form a b fire found.pairs → AppendsTold (TellsPair form d a b) old new
pair_told form d a b ss ts found f g fire old new are first second at_f at_g is e =
    let one : AreCollisions d (seconds a) ts (Some found) = subst (λ (l : List ℤ). AreCollisions d l ts (Some found)) first are in
    let both : AreCollisions d (seconds a) (seconds b) (Some found) = subst (λ (l : List ℤ). AreCollisions d (seconds a) l (Some found)) second one in
    let (s, t, at_s, at_t, h) = both.1.collide in
    let f_within : found.first < length a.fires = omega (arith, length-map a.fires instant, slice_get_within (seconds a) found.first s at_s) in
    let g_within : found.second < length b.fires = omega (arith, length-map b.fires instant, slice_get_within (seconds b) found.second t at_t) in (
      row form a b fire found.pairs,
      e,
      (
        Some found,
        both,
        (
          f,
          g,
          slice_get_read a.fires (length a.fires) found.first f refl f_within at_f,
          slice_get_read b.fires (length b.fires) found.second g refl g_within at_g,
          ap (λ (x : EntryFire). row form a b x found.pairs) is,
        ),
      ),
    )

-- ---- those that are left

-- those from a place on begin with the one there
pub left_from : (es : List code.TabFires) (i : ℕ) (e : code.TabFires) → i < length es → e ≡ get_or es i e
    → map view (drop i es) ≡ view e ∷ map view (drop (i + 1) es)
left_from es i e short is =
    ap (map view) (drop-cons es i e short ∙ (ap (λ (x : code.TabFires). x ∷ drop (suc i) es) (sym is) ∙ ap (λ (j : ℕ). e ∷ drop j es) (sym (add-one i))))

pub none_left : (es : List code.TabFires) (i : ℕ) → length es ≤ i → map view (drop i es) ≡ []
none_left es i long = ap (map view) (drop_all i es long)

pub tail_is : (es : List code.TabFires) (i : ℕ) → take (length es - i) (drop i es) ≡ drop i es
tail_is es i = take_all (length es - i) (drop i es) (omega (arith, length-drop i es))

-- the fires of the first of them ascend, and those of the others
pub first_ascends : (left rest : List TabFires) (e : TabFires) → left ≡ e ∷ rest → AllAscend left → Ascends (seconds e) × AllAscend rest
first_ascends left rest e cut all = subst AllAscend cut all

pub left_ascend : (n : ℕ) (es : List code.TabFires) → AllAscend (map view es) → AllAscend (map view (drop n es))
left_ascend zero es all = all
left_ascend (suc n) [] all = tt
left_ascend (suc n) (e ∷ es) all = left_ascend n es all.1

pub all_ascend : (g : Given) (files : List TabFile) → AllAscend (entries_of g files)
all_ascend g [] = tt
all_ascend g (f ∷ files) = all_ascend-append _ (entries_of g files) (entries_ascend g (bytes_view f.name) (Some 0) (file_lines f.kind f.bytes.now)) (all_ascend g files)

-- one more file's entries stand behind the others
pub file_added : (g : Given) (all old new : List TabFires) (left rest : List TabFile) (f : TabFile) → old ++ entries_of g left ≡ all → left ≡ f ∷ rest
    → new ≡ old ++ entries_in g (bytes_view f.name) (Some 0) (file_lines f.kind f.bytes.now) → new ++ entries_of g rest ≡ all
file_added g all old new left rest f so_far cut is =
    ap (λ (l : List TabFires). l ++ entries_of g rest) is
    ∙ (append_assoc old (entries_in g (bytes_view f.name) (Some 0) (file_lines f.kind f.bytes.now)) (entries_of g rest)
    ∙ (ap (λ (l : List TabFile). old ++ entries_of g l) (sym cut) ∙ so_far))

pub files_from : (files : List TabFile) (i : ℕ) (f : TabFile) → i < length files → f ≡ get_or files i f → drop i files ≡ f ∷ drop (i + 1) files
files_from files i f short is =
    drop-cons files i f short ∙ (ap (λ (x : TabFile). x ∷ drop (suc i) files) (sym is) ∙ ap (λ (j : ℕ). f ∷ drop j files) (sym (add-one i)))

-- memory may run out, whatever the files hold
pub memory_runs_out : (g : Given) (files : List TabFile) → IsFilesError g files OutOfMemory
memory_runs_out g [] = refl
memory_runs_out g (f ∷ files) = inr (memory_runs_out g files)
