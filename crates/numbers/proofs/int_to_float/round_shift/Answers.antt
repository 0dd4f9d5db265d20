-- `numbers::round_shift` meets its contract: twice the remainder, which is n without its upper digits, and the whole part's last digit tell whether `closest` is the next number
-- up. Assumes nothing.
use Rattle.std.proofs.Common.{◌≡◌, ◌+◌, ◌-◌, ◌*◌, ◌/◌, ◌%◌, ◌^◌, ◌≤◌, ◌<◌, ℕ, sym, mod-lt, mul-le-mul_left, div-add-mod', arith, pow_pos, pow_mono}
use lib.Bits.{bit_and, and_mask}
use Rattle.numbers.proofs.Closest.{closest_up, closest_down, one_shifted}
use Rattle.numbers.proofs.int_to_float.round_shift.Goals as goal

-- the unit, the remainder and the last digit, as the code makes them
unit : (k : ℕ) → k < 63 → 1 * 2 ^ k % 2 ^ 64 ≡ 2 ^ k
unit k h = one_shifted k (omega arith)

rest : (n k : ℕ) → k < 63 → bit_and n (1 * 2 ^ k % 2 ^ 64 - 1) ≡ n % 2 ^ k
rest n k h = rw (unit k h) (and_mask n k)

last : (n k : ℕ) → bit_and (n / 2 ^ k) 1 ≡ n / 2 ^ k % 2
last n k = and_mask (n / 2 ^ k) 1

-- twice the remainder is below 2^64
twice_lt : (n k : ℕ) → k < 63 → n % 2 ^ k * 2 + 2 ≤ 2 ^ 64
twice_lt n k h = omega (arith, mod-lt n (pow_pos k), pow_mono {i = k} {j = 63} (omega arith))

pub overflow_sub-twice : goal.overflow_sub-twice
overflow_sub-twice c = omega (arith, unit c.args.k c.requires, pow_pos c.args.k)

pub overflow_mul-twice : goal.overflow_mul-twice
overflow_mul-twice c = omega (arith, rest c.args.n c.args.k c.requires, twice_lt c.args.n c.args.k c.requires)

pub overflow_add-twice : goal.overflow_add-twice
overflow_add-twice c = omega (arith, rest c.args.n c.args.k c.requires, last c.args.n c.args.k, twice_lt c.args.n c.args.k c.requires)

-- where the remainder is not 0 the next number up is at most n
pub overflow_add-result : goal.overflow_add-result
overflow_add-result c = let s = c in
    let n = s.args.n in
    let u = 2 ^ s.args.k in
    omega (arith, unit s.args.k s.requires, rest s.args.n s.args.k s.requires, last s.args.n s.args.k, mul-le-mul_left (n / u) (pow_pos s.args.k), pow_pos s.args.k, div-add-mod' n u)

pub returns-then-twice-whole : goal.returns-then-twice-whole
returns-then-twice-whole c =
    let s = c in
    sym (closest_up s.args.n (2 ^ s.args.k) (omega (arith, unit s.args.k s.requires, rest s.args.n s.args.k s.requires, last s.args.n s.args.k)))

pub returns-else-twice-whole : goal.returns-else-twice-whole
returns-else-twice-whole c =
    let s = c in
    sym (closest_down s.args.n (2 ^ s.args.k) (omega (arith, unit s.args.k s.requires, rest s.args.n s.args.k s.requires, last s.args.n s.args.k)))
