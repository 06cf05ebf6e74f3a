use Rattle.std.proofs.Common.{◌≡◌, ◌<◌, IfSome, vec_items}
use Rattle.account.specs.Hex.{hex_bytes}
use Rattle.account.proofs.Digits.{left}
use Rattle.account.proofs.hex.parse.Given as goal

abbrev pub invariant-loop-c : goal.invariant-loop-c
invariant-loop-c l = (left (vec_items l.bytes) l.high l.text l.c-index ≡ hex_bytes l.text) × IfSome l.high (λ h. h < 16)
