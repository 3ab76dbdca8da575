-- Words that are quoted are taken for their texts.
use Rattle.std.proofs.Common.{◌≡◌, ℕ, arith, Bool, true, false, List, [], ◌∷◌, ◌++◌, Some, refl, ap, ◌∙◌, append_assoc}
use Rattle.std.specs.Fmt.{decimal}
use Rattle.std.specs.Prelude.{◌==◌, Option, None, codes}
use Rattle.std.specs.List.{flat_map}
use Rattle.std.proofs.lemmas.List.{append-nil}
use Rattle.cron_shell.specs.Quoted.{escaped, quoted, word, words}
use Rattle.cron_shell.specs.Lines.{IsAlone, IsFed, IsLogged, IsTimed, fed, front, line_end, lock_end, lock_front, timer}
use Rattle.cron_shell.specs.Words.{AreWords, IsTakenFor, IsWord, taken_for, within, with_byte}

same : (c : ℕ) → (c == 39) ≡ true → c ≡ 39
same c is = grind arith

reads-on : (text : List ℕ) → taken_for within (flat_map escaped text ++ 39 ∷ []) ≡ Some text
reads-on [] = refl
reads-on (c ∷ cs) = by_test (c == 39) refl (reads-on cs)
  where
    by_test : (b : Bool) → (c == 39) ≡ b → taken_for within (flat_map escaped cs ++ 39 ∷ []) ≡ Some cs
        → taken_for within (flat_map escaped (c ∷ cs) ++ 39 ∷ []) ≡ Some (c ∷ cs)
    by_test true is rest = rw (same c is) (ap (with_byte 39) rest)
    by_test false is rest = rw is (rw is (ap (with_byte c) rest))

-- a quoted text is taken for it
pub reads-back : (text : List ℕ) → IsTakenFor text (quoted text)
reads-back text = reads-on text

pub is-word : (text : List ℕ) → IsWord text (word text)
is-word text = (quoted text, refl, reads-back text)

-- so are several
pub read-back : (texts : List (List ℕ)) → AreWords texts (words texts)
read-back [] = refl
read-back (text ∷ texts) = (quoted text, words texts, refl, reads-back text, read-back texts)

-- the line of a job as it is put together
pub is-fed : (lines : List (List ℕ)) (command : List ℕ) → IsFed lines command (fed lines command)
is-fed [] command = refl
is-fed (first ∷ lines) command = (words (first ∷ lines), read-back (first ∷ lines), refl)

pub is-timed : (timeout : Option ℕ) (command : List ℕ) → IsTimed timeout command (timer timeout ++ command)
is-timed None command = refl
is-timed (Some seconds) command = (
  word (decimal seconds),
  is-word (decimal seconds),
  append_assoc (codes "timeout") (word (decimal seconds) ++ codes " ") command
      ∙ ap (λ t. codes "timeout" ++ t) (append_assoc (word (decimal seconds)) (codes " ") command),
)

pub is-alone : (lock : Option (List ℕ)) (command : List ℕ) → IsAlone lock command (lock_front lock ++ (command ++ lock_end lock))
is-alone None command = append-nil command
is-alone (Some file) command = (word file, is-word file, refl)

pub is-logged : (log : Option (List ℕ)) (fire command : List ℕ) → IsLogged log fire command (front log fire ++ (command ++ line_end log))
is-logged None fire command = refl
is-logged (Some file) fire command = (
  word fire,
  word file,
  is-word fire,
  is-word file,
  append_assoc (codes "{ printf '%s\\n'") (word fire ++ codes "; ") (command ++ line_end (Some file))
      ∙ ap (λ t. codes "{ printf '%s\\n'" ++ t) (append_assoc (word fire) (codes "; ") (command ++ line_end (Some file))),
)
