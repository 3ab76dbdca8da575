use Rattle.std.proofs.Common.{arith}
use Rattle.cron_crontab.specs.Inner.Reading.{IsWithin}
use Rattle.cron_crontab.proofs.NumberLemmas.{digits_number, named_number}
use Rattle.cron_crontab.proofs.numbers.lone_number.Goals as goal
use Rattle.cron_crontab.proofs.numbers.lone_number.Goals.{in-Some, in-None+in_ok-number-in-None}

pub returns-then-number-greatest : goal.returns-then-number-greatest
returns-then-number-greatest c =
    let low = c.least.ensures in
    let high = c.greatest.ensures in
    let within : IsWithin c.args.field c.match-lone_digits.number = (omega arith, omega arith) in
    elim c.match-lone_digits.branch [
      | in-Some w ↦
          let are = rw c.as_bytes.ensures.value at w.in-Some.ensures in
          rw w.number-is (digits_number c.args.field c.args.text.now w.in-Some.number are (rw w.number-is at within))
      | in-None+in_ok-number-in-None w ↦
          rw w.number-is
          (named_number c.args.field c.args.text.now w.in_ok-number-in-None.number w.in_ok-number-in-None.ensures (rw w.number-is at within))
    ]
