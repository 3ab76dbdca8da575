use Rattle.std.proofs.Common.{◌≡◌, ◌<◌, ◌≤◌, ◌||◌, [], ◌∷◌, Ok, ◌&&◌, ◌==◌, not, ℕ, ◌-◌, Bool, true, false, List, ◌++◌, length, take, drop, refl, sym, ap, ◌∙◌, append_assoc, take-append-drop, arith, rules}
use Rattle.std.proofs.lemmas.Bool.Decides.{nat_tests}
use Rattle.std.proofs.lemmas.List.{take_rest}
use Rattle.std.proofs.KnownBytes.{Appends-trans}
use Rattle.std.specs.declared.io.Error.{Error}
use Rattle.cron_writer.specs.Watching.{is_empty, is_failed_write, writer_of}
use Rattle.cron_writer.proofs.Calling.{tried_on}
use Rattle.cron_writer.proofs.watched.send_whole.Goals as goal

moves_front : (all done rest : List ℕ) (n : ℕ) → all ≡ done ++ rest → all ≡ (done ++ take n rest) ++ take (length rest - n) (drop n rest)
moves_front all done rest n e =
    e ∙ ap (λ l. done ++ l) (sym (take-append-drop n rest)) ∙ sym (append_assoc done (take n rest) (drop n rest))
    ∙ ap (λ l. (done ++ take n rest) ++ l) (sym (take_rest rest n))

-- a write that takes a byte is no failure
no_failure : (n : ℕ) (old new : Bool) (rest : List ℕ) → 0 < n → old ≡ false → new ≡ (old || (n == 0 && not (is_empty rest))) → new ≡ false
no_failure n old new rest some fresh h = let z : (n == 0) ≡ false = grind (arith, nat_tests) in h ∙ rw (fresh, z) refl

pub loop-rest-preserved : goal.loop-rest-preserved
loop-rest-preserved g c =
    let (done, split, appended, fresh, tried) = c.loop-rest.invariant in
    let rest = c.loop-rest.rest.now in
    let n = c.in-Ok.count in (
      done ++ take n rest,
      moves_front _ done rest n split,
      Appends-trans _ _ _ _ _ appended c.in-Ok.ensures.bytes,
      no_failure n c.loop-rest.out.failed c.write.new.self.failed rest c.if-count-gt0.true fresh c.in-Ok.ensures.mark,
      tried_on _ _ (writer_of c.loop-rest.out) _ _ _ _ _ rest _ (Ok n) (take_rest rest n) tried fresh (grind (arith, nat_tests))
          c.in-Ok.ensures.call c.in-Ok.ensures.mark,
    )

pub returns-in_default-clause-sent : goal.returns-in_default-clause-sent
returns-in_default-clause-sent c = search rules

pub returns-in_default-2-clause-sent : goal.returns-in_default-2-clause-sent
returns-in_default-2-clause-sent c = search rules

none_there : (xs : List ℕ) → length xs ≡ 0 → xs ≡ []
none_there [] h = refl
none_there (x ∷ xs) h = absurd (omega arith)

zero_left : (rest : List ℕ) → is_failed_write {E = Error} (Ok 0) rest ≡ false → rest ≡ []
zero_left [] h = refl
zero_left (x ∷ xs) h = absurd (cc)

-- a write that takes no byte of a piece has failed
none_left : (n : ℕ) (old new : Bool) (rest : List ℕ) → n ≤ 0 → old ≡ false → new ≡ (old || is_failed_write {E = Error} (Ok n) rest) → new ≡ false
    → drop n rest ≡ []
none_left n old new rest small was h fresh =
    let z : n ≡ 0 = omega arith in
    let taken : is_failed_write {E = Error} (Ok n) rest ≡ false =
    sym (h ∙ ap (λ m. m || is_failed_write {E = Error} (Ok n) rest) was) ∙ fresh in
    rw z (zero_left rest (sym (ap (λ k. is_failed_write {E = Error} (Ok k) rest) z) ∙ taken))

-- a failed write sets the mark
no_mark : (old new : Bool) → old ≡ false → new ≡ (old || true) → new ≡ false → ⊥
no_mark old new was h fresh = cc

pub returns-in_default-clause-calls : goal.returns-in_default-clause-calls
returns-in_default-clause-calls g c =
    let (done, split, appended, fresh, tried) = c.loop-rest.invariant in
    let rest = c.loop-rest.rest.now in
    let n = c.in-Ok.count in (
      drop n rest,
      (
        tried_on _ _ (writer_of c.loop-rest.out) _ _ _ _ _ rest _ (Ok n) refl tried fresh (grind (arith, nat_tests)) c.in-Ok.ensures.call c.in-Ok.ensures.mark,
        none_left n c.loop-rest.out.failed c.write.new.self.failed rest c.if-count-gt0.false fresh c.in-Ok.ensures.mark,
      ),
    )

pub returns-in_default-2-clause-calls : goal.returns-in_default-2-clause-calls
returns-in_default-2-clause-calls g c =
    let (done, split, appended, fresh, tried) = c.loop-rest.invariant in
    let rest = c.loop-rest.rest.now in (
      rest,
      (
        tried_on _ _ (writer_of c.loop-rest.out) _ _ _ _ _ rest _ _ refl tried fresh (grind (arith, nat_tests))
            c.in_default.ensures.call c.in_default.ensures.mark,
        λ unmarked. absurd (no_mark c.loop-rest.out.failed c.write.new.self.failed fresh c.in_default.ensures.mark unmarked),
      ),
    )

pub returns-clause-calls : goal.returns-clause-calls
returns-clause-calls g c =
    let (done, split, appended, fresh, tried) = c.loop-rest.invariant in
    (c.loop-rest.rest.now, (tried, λ unmarked. none_there _ (grind (arith, nat_tests))))
