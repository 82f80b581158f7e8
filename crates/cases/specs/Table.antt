-- "Cases (P: proved, in one table)": a line each, and the listings of 001 and 004.
use Rattle.std.specs.Prelude.{ℕ, ◌-◌, ◌^◌, ◌≡◌, refl, true, false, List, [], ◌∷◌}
use Rattle.clocked.specs.Prediction.{as_in_01}
use Rattle.cases.specs.Names.{Status, hlt, adr, ins, Settings, no_window, within}
use Rattle.cases.specs.Asked.{Case, Look, register, word, charged, all_hold}

-- the settings; N, how many bytes are given, the bytes as they are written, the registers that are not 0; then
-- status, last address, codes, retired, cycles, the kinds load-use, mispredict, return, and what else is looked at
abbrev case_at : Settings → (size bytes image : ℕ) → List (ℕ × ℕ) → Status → (last codes retired cycles loaduse mispredict returned : ℕ) → List Look → Case
case_at g n k x r t a c i y l m u s =
    record {
      settings = g;
      size = n;
      bytes = k;
      image = x;
      registers = r;
      status = t;
      last = a;
      codes = c;
      retired = i;
      cycles = y;
      kinds = l ∷ m ∷ u ∷ 0 ∷ [];
      looks = s;
    }

-- a program that patches itself, seen through a window (02, #113): its first address and end go before the rest, and the cycles charged behind its
-- stores into the window come last of the kinds
abbrev patching : (first end size bytes image : ℕ) → List (ℕ × ℕ) → Status → (last codes retired cycles loaduse mispredict returned patched : ℕ) → List Look
    → Case
patching first end n k x r t a c i y l m u p s =
    record {
      settings = record { rule = 0; late = false; window = within (first, end) };
      size = n;
      bytes = k;
      image = x;
      registers = r;
      status = t;
      last = a;
      codes = c;
      retired = i;
      cycles = y;
      kinds = l ∷ m ∷ u ∷ p ∷ [];
      looks = s;
    }

abbrev case : (size bytes image : ℕ) → List (ℕ × ℕ) → Status → (last codes retired cycles loaduse mispredict returned : ℕ) → List Look → Case
case = case_at as_in_01

-- late store data, by the rule of that number
abbrev late : ℕ → Settings
late n = record { rule = n; late = true; window = no_window }

unfoldable pub cases : List Case
cases =
    -- P1 `00`: HLT, 5 cycles
    case 1 1 0x00 [] hlt 0 4 1 5 0 0 0 []
    -- P2 `10`: nop, then ADR at 1; 2 retired, 6 cycles
    ∷ case 1 1 0x10 [] adr 1 4 2 6 0 0 0 []
    -- P3 `d0` INS (02, #101)
    ∷ case 1 1 0xd0 [] ins 0 4 1 5 0 0 0 []
    -- P4 `64` INS, before the missing byte
    ∷ case 1 1 0x64 [] ins 0 4 1 5 0 0 0 []
    -- P5 `60` ADR
    ∷ case 1 1 0x60 [] adr 0 4 1 5 0 0 0 []
    -- P6 `60f0` INS
    ∷ case 2 2 0x60f0 [] ins 0 4 1 5 0 0 0 []
    -- P7 word at N-8 inside, at N-7 and 2^64-1 ADR: popq rax with rsp there
    ∷ case 8 2 0xb00f ((4, 0) ∷ []) hlt 2 4 2 6 0 0 0 ((register, 0, 0x0fb0) ∷ (register, 4, 8) ∷ [])
    ∷ case 8 2 0xb00f ((4, 1) ∷ []) adr 0 4 1 5 0 0 0 ((register, 0, 0) ∷ (register, 4, 1) ∷ [])
    ∷ case 8 2 0xb00f ((4, 2 ^ 64 - 1) ∷ []) adr 0 4 1 5 0 0 0 ((register, 0, 0) ∷ (register, 4, 2 ^ 64 - 1) ∷ [])
    -- P8 -2^63 minus 1: 2^63-1, OF 1, SF 0, l true: subq rax, rcx, then cmovl rax, rdx
    ∷ case 5 5 0x6101_2202_00 ((0, 1) ∷ (1, 2 ^ 63) ∷ []) hlt 4 1 3 7 0 0 0 ((register, 1, 2 ^ 63 - 1) ∷ (register, 2, 1) ∷ [])
    -- P9 0 minus -2^63: OF 1, SF 1, l false
    ∷ case 5 5 0x6101_2202_00 ((0, 2 ^ 63) ∷ []) hlt 4 3 3 7 0 0 0 ((register, 1, 2 ^ 63) ∷ (register, 2, 0) ∷ [])
    -- P10 pushq rsp stores the old rsp, popq rsp leaves the word
    ∷ case 16 3 0xa04f_00 ((4, 16) ∷ []) hlt 2 4 2 6 0 0 0 ((register, 4, 8) ∷ (word, 8, 16) ∷ [])
    ∷ case 16 9 0xb04f_00_0000000000_05 ((4, 8) ∷ []) hlt 2 4 2 6 0 0 0 ((register, 4, 5) ∷ [])
    -- P11 popq rsp before ret: ret charged 1, its follower 3
    ∷ case 32 25 0xb04f_90_00_00000000_1800000000000000_0000000000000000_03 ((4, 8) ∷ []) hlt 3 4 3 11 1 0 3 ((register, 4, 32) ∷ (charged, 2, 1) ∷ (charged, 3, 3) ∷ [])
    -- a filler is not looked at (02, #102): 8, as 004 shows it, 0 and 14, of irmovq 5, rdx; iaddq 5, rdx; pushq rax; popq rcx
    ∷ case 11 11 0x3082_0500000000000000_00 [] hlt 10 4 2 6 0 0 0 ((register, 2, 5) ∷ (register, 8, 0) ∷ [])
    ∷ case 11 11 0x3002_0500000000000000_00 [] hlt 10 4 2 6 0 0 0 ((register, 2, 5) ∷ (register, 0, 0) ∷ [])
    ∷ case 11 11 0x30e2_0500000000000000_00 [] hlt 10 4 2 6 0 0 0 ((register, 2, 5) ∷ (register, 14, 0) ∷ [])
    ∷ case 11 11 0xc082_0500000000000000_00 ((2, 1) ∷ []) hlt 10 0 2 6 0 0 0 ((register, 2, 6) ∷ (register, 8, 0) ∷ [])
    ∷ case 11 11 0xc002_0500000000000000_00 ((2, 1) ∷ []) hlt 10 0 2 6 0 0 0 ((register, 2, 6) ∷ (register, 0, 0) ∷ [])
    ∷ case 11 11 0xc0e2_0500000000000000_00 ((2, 1) ∷ []) hlt 10 0 2 6 0 0 0 ((register, 2, 6) ∷ (register, 14, 0) ∷ [])
    ∷ case 16 3 0xa008_00 ((0, 7) ∷ (4, 16) ∷ []) hlt 2 4 2 6 0 0 0 ((register, 4, 8) ∷ (word, 8, 7) ∷ [])
    ∷ case 16 3 0xa000_00 ((0, 7) ∷ (4, 16) ∷ []) hlt 2 4 2 6 0 0 0 ((register, 4, 8) ∷ (word, 8, 7) ∷ [])
    ∷ case 16 3 0xa00e_00 ((0, 7) ∷ (4, 16) ∷ []) hlt 2 4 2 6 0 0 0 ((register, 4, 8) ∷ (word, 8, 7) ∷ [])
    ∷ case 11 11 0xb018_00_0500000000000000 ((4, 3) ∷ []) hlt 2 4 2 6 0 0 0 ((register, 1, 5) ∷ (register, 8, 0) ∷ (register, 4, 11) ∷ [])
    ∷ case 11 11 0xb010_00_0500000000000000 ((4, 3) ∷ []) hlt 2 4 2 6 0 0 0 ((register, 1, 5) ∷ (register, 0, 0) ∷ (register, 4, 11) ∷ [])
    ∷ case 11 11 0xb01e_00_0500000000000000 ((4, 3) ∷ []) hlt 2 4 2 6 0 0 0 ((register, 1, 5) ∷ (register, 14, 0) ∷ (register, 4, 11) ∷ [])
    -- nor is it a source: pushq rax with filler 3 behind a load of rbx
    ∷ case 24 13 0x5030_0000000000000000_a003_00 ((4, 24) ∷ []) hlt 12 4 3 7 0 0 0 ((register, 3, 0x3050) ∷ (charged, 2, 0) ∷ (word, 16, 0) ∷ [])
    -- a named register that is 15: INS, whatever the filler
    ∷ case 10 10 0x308f_0000000000000000 [] ins 0 4 1 5 0 0 0 []
    ∷ case 10 10 0xc0ff_0000000000000000 [] ins 0 4 1 5 0 0 0 []
    ∷ case 2 2 0xa0f8 [] ins 0 4 1 5 0 0 0 []
    ∷ case 2 2 0xb0ff [] ins 0 4 1 5 0 0 0 []
    -- a function that the table has not: INS
    ∷ case 1 1 0x01 [] ins 0 4 1 5 0 0 0 []
    ∷ case 2 2 0x2700 [] ins 0 4 1 5 0 0 0 []
    ∷ case 9 9 0x770000000000000000 [] ins 0 4 1 5 0 0 0 []
    -- addq past the upper end: OF 1, SF 1; addq that wraps to 0: ZF; andq and xorq of 6 and 3
    ∷ case 3 3 0x6001_00 ((0, 1) ∷ (1, 2 ^ 63 - 1) ∷ []) hlt 2 3 2 6 0 0 0 ((register, 1, 2 ^ 63) ∷ [])
    ∷ case 3 3 0x6001_00 ((0, 1) ∷ (1, 2 ^ 64 - 1) ∷ []) hlt 2 4 2 6 0 0 0 ((register, 1, 0) ∷ [])
    ∷ case 3 3 0x6201_00 ((0, 6) ∷ (1, 3) ∷ []) hlt 2 0 2 6 0 0 0 ((register, 1, 2) ∷ [])
    ∷ case 3 3 0x6301_00 ((0, 6) ∷ (1, 3) ∷ []) hlt 2 0 2 6 0 0 0 ((register, 1, 5) ∷ [])
    -- iaddq (02, #101): "a lone `c0` is ADR", a function of 1 INS; codes at both ends of the constant
    ∷ case 1 1 0xc0 [] adr 0 4 1 5 0 0 0 []
    ∷ case 1 1 0xc1 [] ins 0 4 1 5 0 0 0 []
    ∷ case 11 11 0xc0f1_0500000000000000_00 ((1, 7) ∷ []) hlt 10 0 2 6 0 0 0 ((register, 1, 12) ∷ [])
    ∷ case 11 11 0xc0f1_ffffffffffffffff_00 ((1, 1) ∷ []) hlt 10 4 2 6 0 0 0 ((register, 1, 0) ∷ [])
    ∷ case 11 11 0xc0f1_ffffffffffffff7f_00 ((1, 1) ∷ []) hlt 10 3 2 6 0 0 0 ((register, 1, 2 ^ 63) ∷ [])
    ∷ case 11 11 0xc0f1_ffffffffffffff7f_00 ((1, 2 ^ 63) ∷ []) hlt 10 2 2 6 0 0 0 ((register, 1, 2 ^ 64 - 1) ∷ [])
    ∷ case 11 11 0xc0f1_0000000000000080_00 ((1, 2 ^ 64 - 1) ∷ []) hlt 10 1 2 6 0 0 0 ((register, 1, 2 ^ 63 - 1) ∷ [])
    ∷ case 11 11 0xc0f1_0000000000000080_00 ((1, 2 ^ 63) ∷ []) hlt 10 5 2 6 0 0 0 ((register, 1, 0) ∷ [])
    -- iaddq is charged 1 behind a load of rB, mrmovq 0(rax), rcx, and not behind one of another register
    ∷ case 21 21 0x5010_0000000000000000_c0f1_0500000000000000_00 [] hlt 20 0 3 8 1 0 0 ((register, 1, 0x1055) ∷ (charged, 2, 1) ∷ [])
    ∷ case 21 21 0x5010_0000000000000000_c0f2_0500000000000000_00 [] hlt 20 0 3 7 0 0 0 ((register, 2, 5) ∷ (charged, 2, 0) ∷ [])
    -- the seven conditions, by cmovXX rax after subq rax, rcx: equal, less, greater
    ∷ case 17 17 0x6101_2002_2103_2205_2306_2407_2508_2609_00 ((0, 1) ∷ (1, 1) ∷ []) hlt 16 4 9 13 0 0 0 ((register, 2, 1) ∷ (register, 3, 1) ∷ (register, 5, 0) ∷ (register, 6, 1) ∷ (register, 7, 0) ∷ (register, 8, 1) ∷ (register, 9, 0) ∷ [])
    ∷ case 17 17 0x6101_2002_2103_2205_2306_2407_2508_2609_00 ((0, 1) ∷ (1, 0) ∷ []) hlt 16 2 9 13 0 0 0 ((register, 2, 1) ∷ (register, 3, 1) ∷ (register, 5, 1) ∷ (register, 6, 0) ∷ (register, 7, 1) ∷ (register, 8, 0) ∷ (register, 9, 0) ∷ [])
    ∷ case 17 17 0x6101_2002_2103_2205_2306_2407_2508_2609_00 ((0, 1) ∷ (1, 2) ∷ []) hlt 16 0 9 13 0 0 0 ((register, 2, 1) ∷ (register, 3, 0) ∷ (register, 5, 0) ∷ (register, 6, 0) ∷ (register, 7, 1) ∷ (register, 8, 1) ∷ (register, 9, 1) ∷ [])
    -- late store data (02, #106): popq rax, then rmmovq rax, 24(rcx) waits without it only; popq rcx, then rmmovq rax, 24(rcx) waits all the same;
    -- popq rsp, then pushq rsp too; popq rsp, then rmmovq rsp, 24(rcx) stores the word loaded, not the sum
    ∷ case 32 24 0xb00f_40011800000000000000_00_000000_0700000000000000 ((4, 16) ∷ []) hlt 12 4 3 8 1 0 0 ((word, 24, 7) ∷ (charged, 2, 1) ∷ [])
    ∷ case_at (late 0) 32 24 0xb00f_40011800000000000000_00_000000_0700000000000000 ((4, 16) ∷ []) hlt 12 4 3 7 0 0 0
    ((word, 24, 7) ∷ (register, 0, 7) ∷ (charged, 2, 0) ∷ [])
    ∷ case_at (late 2) 40 24 0xb01f_40011800000000000000_00_000000_0700000000000000 ((0, 5) ∷ (4, 16) ∷ []) hlt 12 4 3 8 1 0 0
    ((word, 31, 5) ∷ (charged, 2, 1) ∷ [])
    ∷ case_at (late 1) 32 24 0xb04f_a04f_00_0000000000000000000000_2000000000000000 ((4, 16) ∷ []) hlt 4 4 3 8 1 0 0
    ((word, 24, 32) ∷ (register, 4, 24) ∷ (charged, 2, 1) ∷ [])
    ∷ case_at (late 0) 32 24 0xb04f_40411800000000000000_00_000000_0700000000000000 ((4, 16) ∷ []) hlt 12 4 3 7 0 0 0
    ((word, 24, 7) ∷ (register, 4, 7) ∷ (charged, 2, 0) ∷ [])
    -- the listing of 001: 11 retired, 20 cycles, HLT at 0x40, rax 9, rbx 12, rsp 128, word at 120 is 64
    ∷ case 256 66 0x30f20900000000000000_30f31500000000000000_6123_30f48000000000000000_40436400000000000000_a02f_b00f_734000000000000000_804100000000000000_00_90 [] hlt 0x40 0 11 20 0 2 3 ((register, 0, 9) ∷ (register, 3, 12) ∷ (register, 4, 128) ∷ (word, 120, 64) ∷ [])
    -- the listing of 004 stops at 0x13 after 33, in 52 cycles
    ∷ case 256 161 0x30f40001000000000000_804000000000000000_00_00000000_0d000d000d000d00_c000c000c000c000_000b000b000b000b_00a000a000a000a0_0000000000000000_30f71800000000000000_805400000000000000_90_30f80100000000000000_30f90800000000000000_30f00000000000000000_50270000000000000000_6222_73a000000000000000_6080_6097_50270000000000000000_6222_748700000000000000_90 [] hlt 0x13 4 33 52 5 4 6 ((register, 0, 4) ∷ (register, 4, 0x100) ∷ (register, 7, 0x38) ∷ (register, 8, 1) ∷ (register, 9, 8) ∷ (word, 0xf0, 0x53) ∷ (word, 0xf8, 0x13) ∷ [])
    -- #113: rmmovq %rax, 12(%rcx) writes halts where the third nop behind it stands
    ∷ patching 0 20 20 20 0x4001_0c00000000000000_10101010101010101010 [] hlt 12 4 4 11 0 0 0 3 ((charged, 2, 3) ∷ [])
    -- #113: the same byte written again counts as written
    ∷ patching 0 20 20 20 0x4001_0c00000000000000_10101010101010101010 ((0, 0x1010101010101010) ∷ []) adr 20 4 12 19 0 0 0 3 []
    -- #113: window edges split by the store: its first byte is the window's last; it lies beside the window
    ∷ patching 0 13 20 20 0x4001_0c00000000000000_10101010101010101010 [] hlt 12 4 4 11 0 0 0 3 []
    ∷ patching 0 12 20 20 0x4001_0c00000000000000_10101010101010101010 [] adr 12 4 4 8 0 0 0 0 []
    -- #113: an empty window stops at the first instruction
    ∷ patching 0 0 20 20 0x4001_0c00000000000000_10101010101010101010 [] adr 0 4 1 5 0 0 0 0 []
    -- #113: pushq into the next instruction
    ∷ patching 0 10 10 10 0xa00f_1010101010101010 ((4, 10) ∷ []) hlt 2 4 2 9 0 0 0 3 ((register, 4, 2) ∷ [])
    -- #113: call that writes its target: 9 is a halt of function 9
    ∷ patching 0 17 17 17 0x80_0900000000000000_1010101010101010 ((4, 17) ∷ []) ins 9 4 2 9 0 0 0 3 ((word, 9, 9) ∷ (register, 4, 9) ∷ [])
    -- #113: the cancelled addq sets no codes
    ∷ patching 0 18 18 18 0x4001_0a00000000000000_6000_101010101010 ((0, 2 ^ 63) ∷ []) hlt 10 4 2 9 0 0 0 3 []
    -- #113: a loop that doubles its own constant, examples/doubling.lst: 1, 2 and 4 are added
    ∷ patching 0 54 54 54
    0x30f1_0300000000000000_30f2_0100000000000000_6020_6022_4023_0c00000000000000_c0f1_ffffffffffffffff_74_0a00000000000000_00 [] hlt 53 4 20 35 0 2 0 9
    ((register, 0, 7) ∷ (register, 2, 8) ∷ (word, 12, 8) ∷ [])
    -- #113: with a wrongly guessed jump in E, with a load-use wait in D, with a ret in D
    ∷ patching 0 27 27 27 0x4001_1300000000000000_74_0000000000000000_1010101010101010 [] hlt 19 4 3 12 0 2 0 3 []
    ∷ patching 0 30 30 30 0x4001_1600000000000000_5021_0000000000000000_6022_1010101010101010 [] hlt 22 0 4 12 1 0 0 3 ((register, 2, 0x2c0280) ∷ [])
    ∷ patching 0 28 28 28 0x4001_0c00000000000000_10_90_1010101010101010_1300000000000000 ((4, 20) ∷ []) hlt 19 4 4 14 0 0 3 3 ((register, 4, 28) ∷ [])
    ∷ []

-- every case holds
pub cases_hold : all_hold cases ≡ true
unfolding cases all_hold
cases_hold = refl
