use Rattle.std.proofs.Common.{◌≡◌, ℕ, List, [], ◌++◌, append_assoc, rules, FitsSigned, w64, to_z-of_z}
use Rattle.std.specs.Prelude.{codes}
use Rattle.std.specs.Fmt.{signed_decimal}
use Rattle.cron_answers.proofs.missed.late_object.Goals as goal

joined : (a b c d text second since since_second l0 l1 l2 l3 l4 l5 l6 l7 l8 l9 e : List ℕ) → l0 ≡ [] → l1 ≡ l0 ++ a → l2 ≡ l1 ++ text → l3 ≡ l2 ++ b
    → l4 ≡ l3 ++ second → l5 ≡ l4 ++ c → l6 ≡ l5 ++ since → l7 ≡ l6 ++ d → l8 ≡ l7 ++ since_second → l9 ≡ l8 ++ e
    → l9 ≡ a ++ (text ++ (b ++ (second ++ (c ++ (since ++ (d ++ (since_second ++ e)))))))
joined a b c d text second since since_second l0 l1 l2 l3 l4 l5 l6 l7 l8 l9 e e0 e1 e2 e3 e4 e5 e6 e7 e8 e9 =
    rw (e9, e8, e7, e6, e5, e4, e3, e2, e1, e0) (simp append_assoc)

pub returns : goal.returns
returns c =
    let fits : FitsSigned w64 c.args.second = search rules in
    let wide : FitsSigned w64 c.args.since_second = search rules in
    let number = rw (to_z-of_z fits) at c.push_number.ensures.items in
    let since = rw (to_z-of_z wide) at c.push_number-2.ensures.items in
    joined (codes "{\"late\":true,\"fire\":\"") (codes "\",\"epoch\":") (codes ",\"since\":\"") (codes "\",\"since_epoch\":") c.args.text.now
    (signed_decimal c.args.second) c.args.since.now (signed_decimal c.args.since_second) c.new-object.result.items c.push_bytes.new.sentence.items
    c.push_bytes-2.new.sentence.items c.push_bytes-3.new.sentence.items c.push_number.new.sentence.items c.push_bytes-4.new.sentence.items
    c.push_bytes-5.new.sentence.items c.push_bytes-6.new.sentence.items c.push_number-2.new.sentence.items c.push_bytes-7.new.sentence.items
    (codes "}\n") c.new-object.ensures c.push_bytes.ensures.items c.push_bytes-2.ensures.items c.push_bytes-3.ensures.items number
    c.push_bytes-4.ensures.items c.push_bytes-5.ensures.items c.push_bytes-6.ensures.items since c.push_bytes-7.ensures.items
