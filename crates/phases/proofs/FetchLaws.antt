-- What a descriptor that has no fault promises the engine that fetches it. Assumes nothing.
--     fetch-address     its first byte is an address
use Prim.Native.Nat.{ℕ, ◌<◌, ◌^◌}
use mathlib.Core.Path.{◌≡◌}
use native.Mathlib.Omega.{arith}
use Rattle.layout.specs.declared.Side.TheVariants.{Transmit}
use Rattle.descriptor.specs.Fields.{first_byte}
use Rattle.descriptor.specs.Rules.{flags_fault, length_fault, fetch_fault}
use Rattle.descriptor.specs.declared.Place.{Place}
use Rattle.descriptor.specs.declared.Place.TheVariants.{Start, Middle, Buffer}
use Rattle.descriptor.proofs.RuleLaws.{flags_fault-buffer, length_fault-length, length_fault-end, own_fault-parts, fetch_fault-parts}

at-transmit : (x1 x2 x3 : ℕ) → length_fault Transmit x1 x2 x3 ≡ 0 → first_byte Transmit x1 x2 x3 < 2 ^ 32
at-transmit x1 x2 x3 e = omega (arith, length_fault-length Transmit x1 x2 x3 e, length_fault-end Transmit x1 x2 x3 e)

-- a receive buffer has no SOP, so no offset counts there
at-buffer : (x1 x2 x3 : ℕ) → x1 < 2 ^ 32 → flags_fault Buffer x3 ≡ 0 → first_byte Transmit x1 x2 x3 < 2 ^ 32
unfolding first_byte
at-buffer x1 x2 x3 h e = simp (flags_fault-buffer x3 e).1 h

pub fetch-address : (pl : Place) (x0 x1 x2 x3 : ℕ) → x1 < 2 ^ 32 → fetch_fault pl x0 x1 x2 x3 ≡ 0 → first_byte Transmit x1 x2 x3 < 2 ^ 32
fetch-address Start x0 x1 x2 x3 h e = at-transmit x1 x2 x3 (own_fault-parts Start x1 x2 x3 (fetch_fault-parts Start x0 x1 x2 x3 e).0).1
fetch-address (Middle s n) x0 x1 x2 x3 h e =
    at-transmit x1 x2 x3 (own_fault-parts (Middle s n) x1 x2 x3 (fetch_fault-parts (Middle s n) x0 x1 x2 x3 e).0).1
fetch-address Buffer x0 x1 x2 x3 h e = at-buffer x1 x2 x3 h (own_fault-parts Buffer x1 x2 x3 (fetch_fault-parts Buffer x0 x1 x2 x3 e).0).0
