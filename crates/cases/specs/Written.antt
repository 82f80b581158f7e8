-- #104: listings and instructions written, worked out by hand, and the refusals at their ends, in one table.
use Rattle.std.specs.Prelude.{ℕ, ◌-◌, ◌^◌, ◌<◌, ◌≤◌, Bool, true, ◌&&◌, List, [], ◌∷◌, ◌++◌, ◌≡◌, refl, eqb, length, take, drop, replicate}
use Prim.Native.String.{String}
use Rattle.std.proofs.Common.{ap, ◌∙◌, arith, ne_eqb, le-ltb}
use Rattle.std.proofs.lemmas.List.Edits.{sets}
use Rattle.machine.specs.Memory.{lent}
use Rattle.machine.specs.Runs.{size_refused, lowest}
use Rattle.text.specs.Bytes.{bytes}
use Rattle.text.specs.Parts.{lines}
use Rattle.text.specs.Decimal.{digits, decimal}
use Rattle.listing.specs.Grammar as grammar
use Rattle.listing.specs.Reading.{records, done, listed}
use Rattle.listing_edge.specs.Listings.{listing_refusal, told, listing_edge, told_of, listing_read}
use Rattle.register_lines.specs.Registers.{register_names, register_name}
use Rattle.encoding.specs.declared.Fields.{Fields}
use Rattle.encoding.specs.Encode.{fields, encode_refused, least_first, pair, tail, form}
use Rattle.writing.specs.HexText.{hex_digit, hex_digits, hex_text, hex_pairs}
use Rattle.writing.specs.Remark.{mnemonics, mnemonic, operands_of, register, operands, remark}
use Rattle.writing.specs.Text.{starts, starts_at, within_end, whole, crosses, line_bytes, line_at, lines_from, listing_of}
use Rattle.writing.specs.Back.{Bytes, reads_back}
use Rattle.writing_edge.specs.Writings.{Written, fitted, encode_refusal, encoded, range_refused, list_refusal, listing_written}
use Rattle.records.specs.Given.{image}
use Rattle.records.specs.Looks.{same}
use Rattle.cases.specs.Computing.{computing}

-- what is to be left: the number, what the lent bytes begin with, the others staying, and the length's block
pub record Left : Type 0 where
  pub number : ℕ
  pub front : List ℕ
  pub told : List ℕ

-- written, and so long; too short for so much; refused by its number
abbrev writes : List ℕ → Left
writes t = record { number = 0; front = t; told = least_first 8 (length t) }

abbrev needs : ℕ → Left
needs n = record { number = 8; front = []; told = least_first 8 n }

abbrev refuses : (number block : ℕ) → Left
refuses n l = record { number = n; front = []; told = replicate l 9 }

-- so many bytes are lent for it, all 7, and a block for the length, all 9
abbrev lent_for : ℕ → List ℕ
lent_for n = replicate n 7

unfoldable pub leaves : Written → (lent : ℕ) → Left → Bool
leaves w n l = eqb w.answer l.number && (same w.bytes (l.front ++ drop (length l.front) (lent_for n)) && same w.length l.told)

-- LISTINGS: N, how many bytes are given, the bytes as they are written; start and end; the text and the block that are lent
pub record Range : Type 0 where
  pub size : ℕ
  pub given : ℕ
  pub image : ℕ
  pub start : ℕ
  pub end : ℕ
  pub text : ℕ
  pub block : ℕ
  pub left : Left

abbrev range : (size given image start end text block : ℕ) → Left → Range
range n k x s e t b l = record { size = n; given = k; image = x; start = s; end = e; text = t; block = b; left = l }

-- in a text of 700 bytes
abbrev lists : (size given image start end : ℕ) → String → Range
lists n k x s e t = range n k x s e 700 8 (writes (bytes t))

unfoldable pub ranges : List Range
ranges =
    -- `14`, `6123`, `subq %rdx, %rbx`; the listing of 001, whole
    lists 22 22 0x30f20900000000000000_30f31500000000000000_6123 0x14 0x16 "14\t6123\tsubq %rdx, %rbx\n"
    ∷ lists 66 66 0x30f20900000000000000_30f31500000000000000_6123_30f48000000000000000_40436400000000000000_a02f_b00f_734000000000000000_804100000000000000_00_90 0 66
    "0\t30f20900000000000000\tirmovq $9, %rdx\na\t30f31500000000000000\tirmovq $21, %rbx\n14\t6123\tsubq %rdx, %rbx\n16\t30f48000000000000000\tirmovq $128, %rsp\n20\t40436400000000000000\trmmovq %rsp, 100(%rbx)\n2a\ta02f\tpushq %rdx\n2c\tb00f\tpopq %rax\n2e\t734000000000000000\tje 64\n37\t804100000000000000\tcall 65\n40\t00\thalt\n41\t90\tret\n"
    -- the names by function, and every register
    ∷ lists 26 26 0x2001_2112_2223_2334_2445_2556_2667_6078_6189_629a_63ab_20cd_20de 0 26
    "0\t2001\trrmovq %rax, %rcx\n2\t2112\tcmovle %rcx, %rdx\n4\t2223\tcmovl %rdx, %rbx\n6\t2334\tcmove %rbx, %rsp\n8\t2445\tcmovne %rsp, %rbp\na\t2556\tcmovge %rbp, %rsi\nc\t2667\tcmovg %rsi, %rdi\ne\t6078\taddq %rdi, %r8\n10\t6189\tsubq %r8, %r9\n12\t629a\tandq %r9, %r10\n14\t63ab\txorq %r10, %r11\n16\t20cd\trrmovq %r12, %r13\n18\t20de\trrmovq %r13, %r14\n"
    ∷ lists 63 63 0x700000000000000000_710100000000000000_720001000000000000_73ffffffffffffff7f_740000000000000080_75ffffffffffffffff_764000000000000000 0 63
    "0\t700000000000000000\tjmp 0\n9\t710100000000000000\tjle 1\n12\t720001000000000000\tjl 256\n1b\t73ffffffffffffff7f\tje 9223372036854775807\n24\t740000000000000080\tjne 9223372036854775808\n2d\t75ffffffffffffffff\tjge 18446744073709551615\n36\t764000000000000000\tjg 64\n"
    -- "constants in unsigned decimal and never left out"
    ∷ lists 31 31 0x40040000000000000000_50a70800000000000000_5021ffffffffffffffff_10 0 31
    "0\t40040000000000000000\trmmovq %rax, 0(%rsp)\na\t50a70800000000000000\tmrmovq 8(%rdi), %r10\n14\t5021ffffffffffffffff\tmrmovq 18446744073709551615(%rcx), %rdx\n1e\t10\tnop\n"
    -- fillers are written as they stand, and not looked at (#102)
    ∷ lists 24 24 0x30820900000000000000_c0070800000000000000_a00e_b040 0 24
    "0\t30820900000000000000\tirmovq $9, %rdx\na\tc0070800000000000000\tiaddq $8, %rdi\n14\ta00e\tpushq %rax\n16\tb040\tpopq %rsp\n"
    -- "a byte that starts none": no such code or function, a named register of 15, cut off by memory; a halt does start one
    ∷ lists 3 3 0xd0_ff_00 0 3 "0\td0\n1\tff\n2\t00\thalt\n"
    ∷ lists 4 4 0x64_27_01_90 0 4 "0\t64\n1\t27\n2\t01\n3\t90\tret\n"
    ∷ lists 4 4 0x60f0_a0ff 0 4 "0\t60\n1\tf0\n2\ta0\n3\tff\n"
    ∷ lists 2 2 0x30_10 0 2 "0\t30\n1\t10\tnop\n"
    -- "An instruction that crosses the end becomes such one-byte lines up to the end": by one byte and by more; not where it ends with it
    ∷ lists 10 10 0x30f01010101010101010 0 10 "0\t30f01010101010101010\tirmovq $1157442765409226768, %rax\n"
    ∷ lists 10 10 0x30f01010101010101010 0 9 "0\t30\n1\tf0\n2\t10\n3\t10\n4\t10\n5\t10\n6\t10\n7\t10\n8\t10\n"
    ∷ lists 10 10 0x30f01010101010101010 0 3 "0\t30\n1\tf0\n2\t10\n"
    ∷ lists 10 10 0x30f01010101010101010 2 4 "2\t10\tnop\n3\t10\tnop\n"
    -- an address of three digits; a range of nothing, at both ends
    ∷ lists 257 0 0 256 257 "100\t00\thalt\n"
    ∷ range 3 0 0 0 0 0 8 (writes [])
    ∷ range 3 0 0 3 3 5 8 (writes [])
    -- 8: one byte too few, and none; as many as needed
    ∷ range 2 2 0x1000 0 2 18 8 (needs 19)
    ∷ range 2 2 0x1000 0 2 0 8 (needs 19)
    ∷ range 2 2 0x1000 0 2 19 8 (writes (bytes "0\t10\tnop\n1\t00\thalt\n"))
    ∷ range 2 2 0x1000 0 2 20 8 (writes (bytes "0\t10\tnop\n1\t00\thalt\n"))
    -- nothing is changed by a refusal
    ∷ range 0 0 0 0 0 20 8 (refuses 1 8)
    ∷ range 2 2 0x1000 0 2 20 7 (refuses 4 7)
    ∷ range 2 2 0x1000 0 2 20 9 (refuses 4 9)
    ∷ range 2 2 0x1000 2 1 20 8 (refuses 7 8)
    ∷ range 2 2 0x1000 0 3 20 8 (refuses 7 8)
    ∷ []

unfoldable pub ranges_hold : List Range → Bool
ranges_hold [] = true
ranges_hold (c ∷ cs) =
    leaves (listing_written (image c.size c.given c.image).bytes (lent_for c.text) (replicate c.block 9) c.start c.end) c.text c.left
    && ranges_hold cs

-- N, the bytes of the block, start and end, and the refusal
unfoldable pub asked : List (ℕ × ℕ × ℕ × ℕ × ℕ)
asked =
    -- each at its end
    (65536, 8, 0, 65536, 0)
    ∷ (65536, 8, 65536, 65536, 0)
    ∷ (65537, 8, 0, 0, 1)
    ∷ (1, 8, 0, 1, 0)
    ∷ (0, 8, 0, 0, 1)
    ∷ (65536, 8, 0, 65537, 7)
    ∷ (65536, 8, 65536, 65535, 7)
    ∷ (65536, 8, 2 ^ 64 - 1, 2 ^ 64 - 1, 7)
    ∷ (65536, 8, 2 ^ 64 - 1, 0, 7)
    -- 1 goes before 4, and 4 before 7
    ∷ (0, 0, 2, 1, 1)
    ∷ (1, 0, 2, 1, 4)
    ∷ (1, 16, 0, 2, 4)
    ∷ []

unfoldable pub refusals_hold : List (ℕ × ℕ × ℕ × ℕ × ℕ) → Bool
refusals_hold [] = true
refusals_hold (r ∷ rs) = eqb (list_refusal r.0 r.1 r.2 r.3) r.4 && refusals_hold rs

-- INSTRUCTIONS: the fields; the bytes and the block that are lent
unfoldable pub forms : List (Fields × ℕ × ℕ × Left)
forms =
    (fields 6 1 2 3 77, 4, 8, writes (0x61 ∷ 0x23 ∷ []))
    -- F fillers, whatever is given for them
    ∷ (fields 3 0 99 2 9, 10, 8, writes (0x30 ∷ 0xf2 ∷ 9 ∷ 0 ∷ 0 ∷ 0 ∷ 0 ∷ 0 ∷ 0 ∷ 0 ∷ []))
    ∷ (fields 10 0 4 99 9, 12, 8, writes (0xa0 ∷ 0x4f ∷ []))
    ∷ (fields 7 6 99 99 (2 ^ 64 - 2), 9, 8, writes (0x76 ∷ 0xfe ∷ 255 ∷ 255 ∷ 255 ∷ 255 ∷ 255 ∷ 255 ∷ 255 ∷ []))
    ∷ (fields 0 0 99 99 99, 1, 8, writes (0 ∷ []))
    -- a named register over 14, a function and a code that the table has not
    ∷ (fields 6 1 15 3 0, 4, 8, refuses 5 8)
    ∷ (fields 6 1 2 256 0, 4, 8, refuses 5 8)
    ∷ (fields 2 7 2 3 0, 4, 8, refuses 5 8)
    ∷ (fields 13 0 2 3 0, 4, 8, refuses 5 8)
    -- 4 goes before 5, and 5 before 8
    ∷ (fields 13 0 2 3 0, 0, 9, refuses 4 9)
    ∷ (fields 13 0 2 3 0, 0, 8, refuses 5 8)
    ∷ (fields 5 0 2 3 0, 9, 8, needs 10)
    ∷ []

unfoldable pub forms_hold : List (Fields × ℕ × ℕ × Left) → Bool
forms_hold [] = true
forms_hold (c ∷ cs) = leaves (encoded (lent_for c.1) (replicate c.2 9) c.0) c.1 c.3 && forms_hold cs

-- every listing, every refusal and every instruction holds
pub written_hold : (ranges_hold ranges ≡ true) × (refusals_hold asked ≡ true) × (forms_hold forms ≡ true)
unfolding computing leaves ranges ranges_hold asked refusals_hold forms forms_hold bytes digits decimal grammar.remarked grammar.line grammar.written register_names register_name encode_refused least_first pair tail form hex_digit hex_digits hex_text hex_pairs mnemonics mnemonic operands_of register operands remark starts starts_at within_end whole crosses line_bytes line_at lines_from listing_of fitted encode_refusal encoded range_refused list_refusal listing_written
written_hold = (refl, refl, refl)

-- "Reading the listing with #103 gives the same bytes in that range", by the exported functions: what is written is read into any memory as large as
-- the bytes of the range, all others 0
pub written_read : (m other fault : List ℕ) (start end : ℕ) → Bytes m → 0 < length m → length m ≤ 65536 → start ≤ end → end ≤ length m
    → length other ≡ length m → length fault ≡ 16
    → listing_read (listing_of (lent m) start end) other fault
    ≡ listing_edge 0 (sets (replicate (length m) 0) start (take (end - start) (drop start m))) fault
unfolding listing_read listing_refusal lowest size_refused told_of told listed done
written_read m other fault start end b some most h i size block =
    let back = reads_back (lent m) start end b h i (omega arith) in
    let image = ap (λ (n : ℕ). grammar.image_of n (records (lines (listing_of (lent m) start end)))) size ∙ back.1 in
    rw (size, ne_eqb (length m) 0 (λ e. omega arith), le-ltb 65536 (length m) most, block, back.0, image) refl
