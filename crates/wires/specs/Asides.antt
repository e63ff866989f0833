-- The parts of what an object is beside: they are the same where the whole is.
use Rattle.std.proofs.Common.{◌≡◌, ap}
use Rattle.wires.specs.Beside.{Beside, other_of, rest_of}

-- the bytes of the other half
pub bytes_of : (x y : Beside) → x ≡ y → (other_of x).bytes ≡ (other_of y).bytes
bytes_of x y e = ap (λ (b : Beside). (other_of b).bytes) e

-- whether the other half met the end
pub met_of : (x y : Beside) → x ≡ y → (other_of x).met ≡ (other_of y).met
met_of x y e = ap (λ (b : Beside). (other_of b).met) e

-- the faults of the other half
pub faults_of : (x y : Beside) → x ≡ y → (other_of x).faults ≡ (other_of y).faults
faults_of x y e = ap (λ (b : Beside). (other_of b).faults) e

-- what the other half surely takes
pub takes_of : (x y : Beside) → x ≡ y → (other_of x).takes ≡ (other_of y).takes
takes_of x y e = ap (λ (b : Beside). (other_of b).takes) e

-- what is beside the two halves
pub peer_of : (x y : Beside) → x ≡ y → rest_of x ≡ rest_of y
peer_of x y e = ap rest_of e
