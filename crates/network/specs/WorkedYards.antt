-- The yards and lists that are worked through, as bytes, and the replies to them.
use Rattle.std.specs.Prelude.{cond, List, [], ◌∷◌, ◌++◌, map, ℕ, ◌-◌, ◌%◌, ltb, ℤ, pos, negsuc, drop, replicate, take}
use Rattle.std.specs.Int.{w32}
use Rattle.order.specs.Lists.{numbers_from}
use Rattle.network.specs.Bytes.{bits_of, little_endian}
use Rattle.network.specs.Survey.{narrow_link, rest_size, triple, wide_link}
use Rattle.network.specs.PlanList.{head_mark, join}
use Rattle.network.specs.Calls.{Reply}
use Rattle.network.specs.Count.{counted_yard, plain_yard, rested_yard}
use Rattle.network.specs.declared.refusals.Status.{Status}
use Rattle.network.specs.declared.YardFigures.{YardFigures}

-- ---- bytes as document 01 writes them

abbrev pub one : {A : Type 0} → A → List A
one a = a ∷ []

abbrev pub two : {A : Type 0} → A → A → List A
two a b = a ∷ b ∷ []

abbrev pub yard : ℕ → ℕ → ℕ → ℕ → List (List ℕ) → List ℕ
yard n p k1 k2 links = plain_yard n p k1 k2 ++ join links

abbrev pub tallied : ℕ → ℕ → ℕ → ℕ → ℕ → List (List ℕ) → List ℕ
tallied n p k1 k2 count links = counted_yard n p k1 k2 count ++ join links

abbrev pub resting : ℕ → ℕ → ℕ → ℕ → ℕ → ℕ → List (List ℕ) → List ℕ
resting n p k1 k2 count rest links = rested_yard n p k1 k2 count rest ++ join links

abbrev pub link : ℕ → ℕ → ℕ → ℕ → ℕ → List ℕ
link a b s c1 c2 = narrow_link.mark ++ (a ∷ b ∷ []) ++ (little_endian 4 s ++ (little_endian 2 c1 ++ little_endian 2 c2))

-- with three ceilings: n, p, the ranks, the link count, the stations at rest and the links; a link
abbrev pub tripled : ℕ → ℕ → List ℕ → ℕ → ℕ → List (List ℕ) → List ℕ
tripled n p ks count rest links = triple.yard.mark ++ (n ∷ p ∷ []) ++ ks ++ (count ∷ little_endian rest_size rest) ++ join links

abbrev pub link₃ : ℕ → ℕ → ℕ → ℕ → ℕ → ℕ → List ℕ
link₃ a b s c1 c2 c3 = wide_link.mark ++ (a ∷ b ∷ []) ++ (little_endian 4 s ++ (little_endian 2 c1 ++ (little_endian 2 c2 ++ little_endian 2 c3)))

abbrev pub list : ℕ → ℕ → ℕ → ℕ → List (List ℕ) → List ℕ
list count solved t p records = head_mark ++ (little_endian 2 count ++ (little_endian 4 solved ++ (t ∷ p ∷ []))) ++ join records

abbrev pub plan : ℕ → ℕ → ℕ → List ℕ → List ℕ
plan s y1 y2 links = 0x50 ∷ 0x4C ∷ (little_endian 4 s ++ (little_endian 2 y1 ++ little_endian 2 y2)) ++ links

abbrev pub plan₃ : ℕ → ℕ → ℕ → ℕ → List ℕ → List ℕ
plan₃ s y1 y2 y3 links = 0x50 ∷ 0x4D ∷ (little_endian 4 s ++ (little_endian 2 y1 ++ (little_endian 2 y2 ++ little_endian 2 y3))) ++ links

-- the bits of a sum of -n, where n is not 0
abbrev pub minus : ℕ → ℕ
minus n = bits_of w32 (negsuc (n - 1))

abbrev pub three : {A : Type 0} → A → A → A → List A
three a b c = a ∷ b ∷ c ∷ []

-- the costs of a plan with three ceilings, and with up to two
abbrev pub costs₃ : ℤ → ℤ → ℤ → ℤ → Reply
costs₃ s y1 y2 y3 = record { number = 0; place = 0; values = s ∷ three y1 y2 y3 }

abbrev pub costs : ℤ → ℤ → ℤ → Reply
costs s y1 y2 = costs₃ s y1 y2 (pos 0)

abbrev pub looked : ℕ → Reply
looked r = record { number = 0; place = 0; values = pos r ∷ [] }

abbrev pub refused : ℕ → ℕ → Reply
refused number place = record { number = number; place = place; values = [] }

abbrev pub replied : ℕ → ℕ → Status
replied number place = record { number = number; place = place }

-- the bytes of an index
abbrev pub entries : List ℕ → List ℕ
entries numbers = join (map (little_endian 2) numbers)

-- the figures of a yard record
abbrev pub figures : ℕ → ℕ → ℕ → ℕ → YardFigures
figures n p k1 k2 = record { n = n; p = p; k1 = k1; k2 = k2 }

-- the columns of survey A
abbrev pub ends_a : List ℕ
ends_a = 0 ∷ 1 ∷ 1 ∷ 2 ∷ 0 ∷ 2 ∷ []

abbrev pub sums_a : List ℤ
sums_a = pos 4 ∷ pos 3 ∷ pos 1 ∷ []

abbrev pub costs_a : List ℤ
costs_a = pos 7 ∷ pos 0 ∷ pos 2 ∷ pos 0 ∷ pos 9 ∷ pos 0 ∷ []

-- an output of 42 bytes, as many as A has
abbrev pub output42 : List ℕ
output42 = replicate 42 0xFF

-- five plans of no links with p ceilings, of which only one has another y1, and one another sum, and two are alike
abbrev pub mixed : ℕ → List ℕ
mixed p = list 5 0 0 p (plan 5 3 1 [] ∷ plan 5 0xFFFE 4 [] ∷ plan (minus 1) 3 9 [] ∷ plan 5 3 0xFFF9 [] ∷ plan 5 3 1 [] ∷ [])

-- two plans of one sum, the later with the lower y1; and the same where the mark of the later is wrong
abbrev pub tied : List ℕ
tied = list 2 0 0 1 (two (plan 5 3 0 []) (plan 5 0xFFFE 0 []))

abbrev pub unmarked : List ℕ
unmarked = list 2 0 0 1 (two (plan 5 3 0 []) (0x50 ∷ 0x4D ∷ drop 2 (plan 5 0xFFFE 0 [])))

-- the links of survey A
abbrev pub links_a : List (List ℕ)
links_a = link 0 1 4 7 0 ∷ link 1 2 3 2 0 ∷ link 0 2 1 9 0 ∷ []

-- Survey A, with k1; A with second costs, k1 and k2; the two links of P4 and P5; P6; P7
abbrev pub A : ℕ → List ℕ
A k1 = yard 3 1 k1 0 links_a

abbrev pub A₂ : ℕ → ℕ → List ℕ
A₂ k1 k2 = yard 3 2 k1 k2 (link 0 1 4 7 1 ∷ link 1 2 3 2 6 ∷ link 0 2 1 9 3 ∷ [])

abbrev pub pair : ℕ → ℕ → List ℕ
pair x y = yard 2 1 1 0 (link 0 1 5 x 0 ∷ link 0 1 5 y 0 ∷ [])

abbrev pub single : List ℕ
single = yard 1 0 0 0 []

abbrev pub bare : List ℕ
bare = yard 2 1 1 0 []

-- a yard with one negative sum cost; one with negative ones alone, and k1 of 2; two links of a sum cost of -5
abbrev pub solar : List ℕ
solar = yard 3 1 1 0 (link 0 1 (minus 4) 9 0 ∷ link 1 2 3 2 0 ∷ link 0 2 2 7 0 ∷ [])

abbrev pub sunny : List ℕ
sunny = yard 3 1 2 0 (link 0 1 (minus 4) 7 0 ∷ link 1 2 (minus 3) 2 0 ∷ link 0 2 (minus 1) 9 0 ∷ [])

abbrev pub panels : List ℕ
panels = yard 2 1 1 0 (link 0 1 (minus 5) 8 0 ∷ link 0 1 (minus 5) 3 0 ∷ [])

-- A with its links counted; cut off behind link 1; link 0 of A 41 times
abbrev pub counted_a : List ℕ
counted_a = tallied 3 1 1 0 3 links_a

abbrev pub cut_a : List ℕ
cut_a = take 31 counted_a

abbrev pub links41 : List (List ℕ)
links41 = replicate 41 (link 0 1 4 7 0)

-- plans 2 solved 3 / -2 9 links 0 2 / 5 7 links 1 2
abbrev pub output_solar : List ℕ
output_solar =
    0x70 ∷ 0x6C ∷ 0x61 ∷ 0x6E ∷ 0x73 ∷ 0x20 ∷ 0x32 ∷ 0x20 ∷ 0x73 ∷ 0x6F ∷ 0x6C ∷ 0x76 ∷ 0x65 ∷ 0x64 ∷ 0x20 ∷ 0x33 ∷ 0x0A
    ∷ 0x2D ∷ 0x32 ∷ 0x20 ∷ 0x39 ∷ 0x20 ∷ 0x6C ∷ 0x69 ∷ 0x6E ∷ 0x6B ∷ 0x73 ∷ 0x20 ∷ 0x30 ∷ 0x20 ∷ 0x32 ∷ 0x0A
    ∷ 0x35 ∷ 0x20 ∷ 0x37 ∷ 0x20 ∷ 0x6C ∷ 0x69 ∷ 0x6E ∷ 0x6B ∷ 0x73 ∷ 0x20 ∷ 0x31 ∷ 0x20 ∷ 0x32 ∷ 0x0A ∷ []

-- 32 bits at the ends of their range, at the limits of s and one past them, and about 0
abbrev pub sum_bits : List ℕ
sum_bits = 0x80000000 ∷ 0xFFF0BDBF ∷ 0xFFF0BDC0 ∷ 0xFFFFFFFF ∷ 0 ∷ 1_000_000 ∷ 1_000_001 ∷ 0x7FFFFFFF ∷ []

-- plans 2 solved 3 / 4 9 links 1 2 / 7 7 links 0 1
abbrev pub output_a : List ℕ
output_a =
    0x70 ∷ 0x6C ∷ 0x61 ∷ 0x6E ∷ 0x73 ∷ 0x20 ∷ 0x32 ∷ 0x20 ∷ 0x73 ∷ 0x6F ∷ 0x6C ∷ 0x76 ∷ 0x65 ∷ 0x64 ∷ 0x20 ∷ 0x33 ∷ 0x0A
    ∷ 0x34 ∷ 0x20 ∷ 0x39 ∷ 0x20 ∷ 0x6C ∷ 0x69 ∷ 0x6E ∷ 0x6B ∷ 0x73 ∷ 0x20 ∷ 0x31 ∷ 0x20 ∷ 0x32 ∷ 0x0A
    ∷ 0x37 ∷ 0x20 ∷ 0x37 ∷ 0x20 ∷ 0x6C ∷ 0x69 ∷ 0x6E ∷ 0x6B ∷ 0x73 ∷ 0x20 ∷ 0x30 ∷ 0x20 ∷ 0x31 ∷ 0x0A ∷ []

-- the list of A, 34 bytes
abbrev pub list_a : List ℕ
list_a = list 2 3 2 1 (two (plan 4 9 0 (two 1 2)) (plan 7 7 0 (two 0 1)))

-- A with a station 3 that rests and a link to it, the cheapest, with a value of its own, and with k1; its list
abbrev pub winter : ℕ → List ℕ
winter k1 = resting 4 1 k1 0 4 8 (link 0 1 4 7 0 ∷ link 0 3 0 5 0 ∷ link 1 2 3 2 0 ∷ link 0 2 1 9 0 ∷ [])

abbrev pub list_winter : List ℕ
list_winter = list 2 3 2 1 (two (plan 4 9 0 (two 2 3)) (plan 7 7 0 (two 0 2)))

-- 18 stations, of which 7, 8 and 16 work, so that each byte has bits of both kinds; without ceilings
abbrev pub apart : List ℕ
apart = resting 18 0 0 0 4 0x2FE7F (link 7 8 5 0 0 ∷ link 0 1 1 0 0 ∷ link 8 16 3 0 0 ∷ link 7 16 4 0 0 ∷ [])

-- plans 2 solved 3 / 4 9 links 2 3 / 7 7 links 0 2
abbrev pub output_winter : List ℕ
output_winter =
    0x70 ∷ 0x6C ∷ 0x61 ∷ 0x6E ∷ 0x73 ∷ 0x20 ∷ 0x32 ∷ 0x20 ∷ 0x73 ∷ 0x6F ∷ 0x6C ∷ 0x76 ∷ 0x65 ∷ 0x64 ∷ 0x20 ∷ 0x33 ∷ 0x0A
    ∷ 0x34 ∷ 0x20 ∷ 0x39 ∷ 0x20 ∷ 0x6C ∷ 0x69 ∷ 0x6E ∷ 0x6B ∷ 0x73 ∷ 0x20 ∷ 0x32 ∷ 0x20 ∷ 0x33 ∷ 0x0A
    ∷ 0x37 ∷ 0x20 ∷ 0x37 ∷ 0x20 ∷ 0x6C ∷ 0x69 ∷ 0x6E ∷ 0x6B ∷ 0x73 ∷ 0x20 ∷ 0x30 ∷ 0x20 ∷ 0x32 ∷ 0x0A ∷ []

-- A with second and third costs, and its ranks; its list at ranks of 1
abbrev pub A₃ : List ℕ → List ℕ
A₃ ks = tripled 3 3 ks 3 0 (link₃ 0 1 4 7 1 5 ∷ link₃ 1 2 3 2 6 8 ∷ link₃ 0 2 1 9 3 4 ∷ [])

abbrev pub list_a₃ : List ℕ
list_a₃ = list 3 9 2 3 (plan₃ 4 9 6 8 (two 1 2) ∷ plan₃ 5 9 3 5 (two 0 2) ∷ plan₃ 7 7 6 8 (two 0 1) ∷ [])

-- plans 3 solved 9 / 4 9 6 8 links 1 2 / 5 9 3 5 links 0 2 / 7 7 6 8 links 0 1
abbrev pub output_a₃ : List ℕ
output_a₃ =
    0x70 ∷ 0x6C ∷ 0x61 ∷ 0x6E ∷ 0x73 ∷ 0x20 ∷ 0x33 ∷ 0x20 ∷ 0x73 ∷ 0x6F ∷ 0x6C ∷ 0x76 ∷ 0x65 ∷ 0x64 ∷ 0x20 ∷ 0x39 ∷ 0x0A
    ∷ 0x34 ∷ 0x20 ∷ 0x39 ∷ 0x20 ∷ 0x36 ∷ 0x20 ∷ 0x38 ∷ 0x20 ∷ 0x6C ∷ 0x69 ∷ 0x6E ∷ 0x6B ∷ 0x73 ∷ 0x20 ∷ 0x31 ∷ 0x20 ∷ 0x32 ∷ 0x0A
    ∷ 0x35 ∷ 0x20 ∷ 0x39 ∷ 0x20 ∷ 0x33 ∷ 0x20 ∷ 0x35 ∷ 0x20 ∷ 0x6C ∷ 0x69 ∷ 0x6E ∷ 0x6B ∷ 0x73 ∷ 0x20 ∷ 0x30 ∷ 0x20 ∷ 0x32 ∷ 0x0A
    ∷ 0x37 ∷ 0x20 ∷ 0x37 ∷ 0x20 ∷ 0x36 ∷ 0x20 ∷ 0x38 ∷ 0x20 ∷ 0x6C ∷ 0x69 ∷ 0x6E ∷ 0x6B ∷ 0x73 ∷ 0x20 ∷ 0x30 ∷ 0x20 ∷ 0x31 ∷ 0x0A ∷ []

-- two stations and 40 links between them, with a, b and c different values of the three ceilings, and the last link's ends: so a × b × c positions
abbrev pub graded : ℕ → ℕ → ℕ → ℕ → ℕ → List ℕ
graded a b c x y =
    tripled 2 3 (three 1 1 1) 40 0
    (map (λ e. link₃ 0 1 1 (e % a) (e % b) (e % c)) (numbers_from 39 0) ++ one (link₃ x y 1 (39 % a) (39 % b) (39 % c)))

-- the same with 40 values of each, where a third station rests and all but the first n links end at it
abbrev pub most_at_rest : ℕ → List ℕ
most_at_rest n = tripled 3 3 (three 1 1 1) 40 4 (map (λ e. link₃ 0 (cond (ltb e n) 1 2) 1 e e e) (numbers_from 40 0))

-- five plans of no links with three ceilings: one has another y1, one another sum, one another y2, and two differ in y3 alone, the higher first
abbrev pub mixed₃ : List ℕ
mixed₃ = list 5 0 0 3 (plan₃ 5 3 1 9 [] ∷ plan₃ 5 0xFFFE 4 0 [] ∷ plan₃ (minus 1) 3 9 0 [] ∷ plan₃ 5 3 0xFFF9 0 [] ∷ plan₃ 5 3 1 2 [] ∷ [])
