-- What is pushed one after another, put together.
use Rattle.std.proofs.Common.{◌≡◌, ℕ, ◌<◌, List, [], ◌∷◌, ◌++◌, length, refl, sym, subst, ap, ◌∙◌, append_assoc, arith}
use Rattle.std.specs.Prelude.{Option, codes}
use Rattle.std.proofs.lemmas.List.Concat.{flat_map-append}
use Rattle.std.proofs.lemmas.List.{append-nil}
use Rattle.cron_shell.specs.Quoted.{quoted, words}
use Rattle.cron_shell.specs.Lines.{IsJobLine, IsLogged, Work, arguments, fed, front, input_lines, job_line, line_end, lock_end, lock_front, timed}
use Rattle.cron_shell.proofs.CutLemmas.{first-line}
use Rattle.cron_shell.proofs.WordLemmas.{is-alone, is-fed, is-logged, is-timed, read-back}

three : (s d c : List ℕ) → words (s ∷ d ∷ c ∷ []) ≡ (32 ∷ quoted s) ++ ((32 ∷ quoted d) ++ (32 ∷ quoted c))
three s d c = ap (λ t. (32 ∷ quoted s) ++ ((32 ∷ quoted d) ++ t)) (append-nil (32 ∷ quoted c))

pub command-chain : (old env one two three' four five : List ℕ) (texts : List (List ℕ)) (s d c : List ℕ) → one ≡ old ++ env → two ≡ one ++ words texts
    → three' ≡ two ++ 32 ∷ quoted s → four ≡ three' ++ 32 ∷ quoted d → five ≡ four ++ 32 ∷ quoted c
    → five ≡ old ++ (env ++ words (texts ++ s ∷ d ∷ c ∷ []))
command-chain old env one two three' four five texts s d c a b e f g =
    g
    ∙ ap (λ t. t ++ 32 ∷ quoted c) (f ∙ ap (λ t. t ++ 32 ∷ quoted d) (e ∙ ap (λ t. t ++ 32 ∷ quoted s) (b ∙ ap (λ t. t ++ words texts) a)))
    ∙ together
  where
    tail : List ℕ
    tail = (32 ∷ quoted s) ++ ((32 ∷ quoted d) ++ (32 ∷ quoted c))

    together : (((((old ++ env) ++ words texts) ++ 32 ∷ quoted s) ++ 32 ∷ quoted d) ++ 32 ∷ quoted c) ≡ old ++ (env ++ words (texts ++ s ∷ d ∷ c ∷ []))
    together =
        append_assoc (((old ++ env) ++ words texts) ++ 32 ∷ quoted s) (32 ∷ quoted d) (32 ∷ quoted c)
        ∙ append_assoc ((old ++ env) ++ words texts) (32 ∷ quoted s) ((32 ∷ quoted d) ++ (32 ∷ quoted c))
        ∙ append_assoc (old ++ env) (words texts) tail
        ∙ append_assoc old env (words texts ++ tail)
        ∙ ap (λ t. old ++ (env ++ t)) (ap (λ t. words texts ++ t) (sym (three s d c)) ∙ sym (flat_map-append (λ text. 32 ∷ quoted text) texts (s ∷ d ∷ c ∷ [])))

fed-lines : (first : List ℕ) (rest lines : List (List ℕ)) (command : List ℕ) → lines ≡ first ∷ rest
    → fed lines command ≡ codes "printf '%s\\n'" ++ (words lines ++ (codes " | " ++ command))
fed-lines first rest lines command is = rw is refl

pub fed-chain : (old one two three' four command : List ℕ) (text : List ℕ) → 0 < length text → one ≡ old ++ codes "printf '%s\\n'"
    → two ≡ one ++ words (input_lines text) → three' ≡ two ++ codes " | " → four ≡ three' ++ command
    → four ≡ old ++ fed (input_lines text) command
fed-chain old one two three' four command text some a b e f =
    f
    ∙ ap (λ t. t ++ command) (e ∙ ap (λ t. t ++ codes " | ") (b ∙ ap (λ t. t ++ words (input_lines text)) a))
    ∙ append_assoc ((old ++ codes "printf '%s\\n'") ++ words (input_lines text)) (codes " | ") command
    ∙ append_assoc (old ++ codes "printf '%s\\n'") (words (input_lines text)) (codes " | " ++ command)
    ∙ append_assoc old (codes "printf '%s\\n'") (words (input_lines text) ++ (codes " | " ++ command))
    ∙ ap (λ t. old ++ t) (sym (fed-lines _ _ (input_lines text) command (first-line text some)))

pub unfed-chain : (old one two command : List ℕ) (text : List ℕ) → length text ≡ 0 → one ≡ old ++ command → two ≡ one ++ codes " </dev/null"
    → two ≡ old ++ fed (input_lines text) command
unfed-chain old one two command [] none a b =
    b ∙ ap (λ t. t ++ codes " </dev/null") a ∙ append_assoc old command (codes " </dev/null")
unfed-chain old one two command (c ∷ cs) none a b = absurd (omega (arith, none))

-- four texts, pushed one after another
pub end-chain : (old one two three' four a b word : List ℕ) → one ≡ old ++ a → two ≡ one ++ word → three' ≡ two ++ b → four ≡ three' ++ word
    → four ≡ old ++ (a ++ (word ++ (b ++ word)))
end-chain old one two three' four a b word is1 is2 is3 is4 =
    is4
    ∙ ap (λ t. t ++ word) (is3 ∙ ap (λ t. t ++ b) (is2 ∙ ap (λ t. t ++ word) is1))
    ∙ append_assoc ((old ++ a) ++ word) b word
    ∙ append_assoc (old ++ a) word (b ++ word)
    ∙ append_assoc old a (word ++ (b ++ word))

-- what stands behind a front, put together from inside out
tail-chain : (a f e l : List ℕ) → a ++ (f ++ (e ++ l)) ≡ (a ++ (f ++ e)) ++ l
tail-chain a f e l = sym (append_assoc a (f ++ e) l ∙ ap (λ t. a ++ t) (append_assoc f e l))

-- a shell takes the line of a job for what it is
pub is-job-line : (w : Work) (lock log : Option (List ℕ)) (fire : List ℕ) → IsJobLine w lock log fire (job_line w lock log fire)
is-job-line w lock log fire =
    let run = codes "env --" ++ words (arguments w) in
    let input = fed (input_lines w.input) (timed w) in
    let alone = lock_front lock ++ (input ++ lock_end lock) in (
      words (arguments w),
      timed w,
      input,
      alone,
      read-back (arguments w),
      is-timed w.timeout run,
      is-fed (input_lines w.input) (timed w),
      is-alone lock input,
      subst (λ t. IsLogged log fire alone (front log fire ++ t)) (sym (tail-chain (lock_front lock) input (lock_end lock) (line_end log)))
          (is-logged log fire alone),
    )
