use Rattle.std.proofs.Common.{◌≡◌, ◌≤◌, drop}
use Rattle.text.specs.Numbers.{all_digits, natural_class}
use Rattle.text.proofs.digits_value.Given as goal

abbrev pub invariant-loop-b : goal.invariant-loop-b
invariant-loop-b l = (l.value ≤ 1_000_001) × (natural_class l.most (all_digits l.value (drop l.b-index l.word)) ≡ natural_class l.most (all_digits 0 l.word))
