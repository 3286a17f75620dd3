-- How long numbers and names are in a line.
use Rattle.std.proofs.Common.{◌≡◌, ℕ, ◌<◌, ◌≤◌, ◌^◌, true, leb, List, length, arith}
use Rattle.std.specs.Fmt.{decimal}
use Rattle.std.proofs.lemmas.Fmt.{length-decimal-le}
use Rattle.std.proofs.lemmas.Bool.{and_parts, leb-true}
use Rattle.op_core.specs.Ids.{is_number}
use Rattle.op_core.specs.Names.{is_name}

-- a fault's number has at most three digits
pub digits_of_fault : (n : ℕ) → n < 1000 → length (decimal n) ≤ 3
digits_of_fault n h = length-decimal-le 3 n (omega arith) h (omega arith)

-- a count has at most twenty
pub digits_of_count : (n : ℕ) → n < 2 ^ 64 → length (decimal n) ≤ 20
digits_of_count n h = length-decimal-le 20 n (omega arith) (omega arith) h

-- the number of an id has at most sixteen
pub digits_of_id : (n : ℕ) → is_number n ≡ true → length (decimal n) ≤ 16
digits_of_id n h = let most : n ≤ 1000000000000000 = leb-true n 1000000000000000 (and_parts (leb 1 n) (leb n 1000000000000000) h).1 in
    length-decimal-le 16 n (omega arith) (omega arith) (omega arith)

-- a name has at most 32 bytes
pub bytes_of_name : (text : List ℕ) → is_name text ≡ true → length text ≤ 32
bytes_of_name text h = leb-true _ _ (and_parts _ _ (and_parts _ _ h).0).1

-- a number below 100 has at most two digits
pub digits_below_100 : (n : ℕ) → n < 100 → length (decimal n) ≤ 2
digits_below_100 n h = length-decimal-le 2 n (omega arith) h (omega arith)
