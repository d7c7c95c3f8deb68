-- The width of an edition's numbers, and how large its other numbers are.
use mathlib.Core.Path.{◌≡◌, ap}
use Prim.Native.Nat.{◌≤◌}
use lib.Dec.{lit≤}
use Rattle.semantics.specs.Bytes.{Width, one_byte, two_bytes, width_of}
use Rattle.edition.specs.Editions.{edition_of}
use Rattle.edition.specs.declared.Edition.{Edition}
use Rattle.edition.specs.declared.Edition.TheVariants.{First, Second}

-- ---- in the arms of a match
pub of_first : {e : Edition} → e ≡ First → (edition_of e).width ≡ one_byte
of_first q = ap (λ z. (edition_of z).width) q

pub of_second : {e : Edition} → e ≡ Second → (edition_of e).width ≡ two_bytes
of_second q = ap (λ z. (edition_of z).width) q

pub one-wide : {w : Width} → w ≡ one_byte → width_of w ≡ 1
unfolding width_of
one-wide q = ap width_of q

pub two-wide : {w : Width} → w ≡ two_bytes → width_of w ≡ 2
unfolding width_of
two-wide q = ap width_of q

-- ---- of any width
pub width_low : (w : Width) → 1 ≤ width_of w
unfolding width_of
width_low one_byte = lit≤ tt
width_low two_bytes = lit≤ tt

pub width-high : (w : Width) → width_of w ≤ 2
unfolding width_of
width-high one_byte = lit≤ tt
width-high two_bytes = lit≤ tt

-- ---- of any edition that code goes by
pub few-set-bytes : (e : Edition) → (edition_of e).set_bytes ≤ 32
few-set-bytes First = lit≤ tt
few-set-bytes Second = lit≤ tt

pub some-set-bytes : (e : Edition) → 8 ≤ (edition_of e).set_bytes
some-set-bytes First = lit≤ tt
some-set-bytes Second = lit≤ tt

pub few-event-bytes : (e : Edition) → (edition_of e).event_bytes ≤ 4
few-event-bytes First = lit≤ tt
few-event-bytes Second = lit≤ tt
