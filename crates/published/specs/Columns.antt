-- The columns of document 003's stage tables, proved of the plain step: what an instruction changes, to what, and nothing else.
-- Names as there: M₁, M₈, R, PC, CC, icode, ifun, rA, rB, valE, valM. What `fetch_aok` says is put in: rA:rB is M₁[PC+1], valC is M₈[PC+2] or M₈[PC+1].
use Rattle.std.specs.Prelude.{ℕ, ◌+◌, ◌/◌, ◌%◌, ◌<◌, ◌≤◌, ◌≡◌, refl, Bool, true, false, cond, not, ◌&&◌, ◌||◌, [], ◌∷◌, ◌++◌}
use Rattle.std.proofs.Common.{ap, ◌∙◌, sym, set-set}
use Rattle.machine.specs.Types.{is_bad}
use Rattle.machine.specs.Words.{sum, difference, placed}
use Rattle.machine.specs.Memory.{Memory, holding, code_end, Registers, inside, load, store, value, written}
use Rattle.machine.specs.Table.{table, row_of, is, unknown_code}
use Rattle.machine.specs.Fetch.{names_a, names_b, half, fault_at, blame_of, no_blame, stopping}
use Rattle.machine.specs.Stages
use Rattle.machine.specs.Stages.{decode, execute, access, new_codes, new_memory, new_registers, next_address}
use Rattle.machine.specs.Stages.{operated, operated_codes, condition, loads, stores, access_address, access_status}
use Rattle.machine.specs.Plain.{Plain, is_stopped, fetched, decoded, executed, accessed, performed, stopped_by, step}
use Rattle.published.specs.Names.{Status, aok, hlt, adr, Option, Fault, no_fault, Blame, Codes, Instruction}
use Rattle.published.specs.Fetching.{M₁, M₈, aok_at, fetch_aok, aok_code, fetch_bad, fetch_halt}

abbrev pub PC : Plain → ℕ
PC s = s.machine.address

abbrev pub icode : Plain → ℕ
icode s = M₁ s.memory (PC s) / 16

abbrev pub ifun : Plain → ℕ
ifun s = M₁ s.memory (PC s) % 16

abbrev pub r_a : Plain → ℕ
r_a s = M₁ s.memory (PC s + 1) / 16

abbrev pub r_b : Plain → ℕ
r_b s = M₁ s.memory (PC s + 1) % 16

abbrev pub rsp : ℕ
rsp = 4

-- R[q], and the register file after R[q] ← v
abbrev pub R : Plain → ℕ → ℕ
R s q = value s.machine.registers q

abbrev pub gets : Plain → ℕ → ℕ → Registers
gets s q v = written s.machine.registers q v

abbrev pub CC : Plain → Codes
CC s = s.machine.codes

-- s runs, and an instruction of this code is fetched with AOK
abbrev pub At : Plain → ℕ → Type 0
At s code = (is_stopped s ≡ false) × ((fetched s).status ≡ aok) × (icode s ≡ code)

-- an instruction is performed: these registers, codes, memory, program address and status, and its own address is last, counted and logged
abbrev pub after : Plain → Registers → Codes → Memory → ℕ → Status → Plain
after s r c m a t =
    record {
      machine =
          record {
            registers = r;
            codes = c;
            address = a;
            status = t;
            last = PC s;
            count = s.machine.count + 1;
            blame = s.machine.blame;
            window = s.machine.window;
          };
      memory = m;
      log = s.log ++ PC s ∷ [];
    }

-- of the stopping one only the status, the last address, the count, the log and the reason of a bad fetch tell
abbrev pub stopped : Plain → Status → Blame → Plain
stopped s bad f =
    record {
      machine =
          record {
            registers = s.machine.registers;
            codes = s.machine.codes;
            address = PC s;
            status = bad;
            last = PC s;
            count = s.machine.count + 1;
            blame = f;
            window = s.machine.window;
          };
      memory = s.memory;
      log = s.log ++ PC s ∷ [];
    }

-- an access of the word at a: the stopping one with ADR and no reason of a fetch, if that is not inside
abbrev pub accessing : Plain → ℕ → Plain → Plain
accessing s a t = cond (inside s.memory a) t (stopped s adr no_blame)

-- THE GENERAL COLUMN
-- the step at s of an instruction with AOK, by the stage functions
unfoldable step_of : Plain → Instruction → Plain
step_of s i =
    let x = decode i (value s.machine.registers) in
    let y = execute x s.machine.codes in
    let w = access y s.memory in
    cond (not (loads i || stores i) || inside s.memory (access_address y))
    (after s (new_registers w s.machine.registers) (new_codes x s.machine.codes) (new_memory y s.memory) (next_address w) aok)
    (stopped s adr (blame_of s.memory i))

-- the status after an access decides
decided : (accesses within : Bool) (now : Status) (f : Status → Plain) (t : Plain) → now ≡ aok
    → let then = cond (accesses && not within) adr now in cond (is_bad then) (f then) t ≡ cond (not accesses || within) t (f adr)
unfolding is_bad
decided true true now f t a = rw a
decided true false now f t a = refl
decided false within now f t a = rw a

step_of_lem : (s : Plain) (i : Instruction) → is_stopped s ≡ false → fetched s ≡ i → i.status ≡ aok → step s ≡ step_of s i
unfolding step decoded executed accessed performed stopped_by access access_status execute decode step_of
step_of_lem s i r e a = rw (r, e) (decided (loads i || stores i) (inside s.memory (access_address (execute (decode i (R s)) (CC s)))) i.status (λ bad. stopped s bad (blame_of s.memory i)) _ a)

-- the same of the instruction at the program address
unfoldable column_of : Plain → ℕ → Plain
unfolding row_of table is names_a names_b half value written Stages.register Stages.source_a Stages.source_b decode
    Stages.computed Stages.result Stages.outcome execute
    Stages.loading Stages.storing loads stores Stages.addressed access_address Stages.stored Stages.stored_word access
    Stages.codes_by new_codes new_memory Stages.result_target Stages.loaded_target new_registers Stages.turned Stages.straight next_address is_bad step_of aok_at blame_of fault_at no_blame
column_of s code = step_of s (aok_at s.memory (PC s) code)

column : (s : Plain) (code : ℕ) → At s code → step s ≡ column_of s code
unfolding fetched column_of
column s code h = step_of_lem s _ h.0 (fetch_aok s.memory (PC s) h.1 ∙ ap (aok_at s.memory (PC s)) h.2) refl

-- THE COLUMNS
-- OPq rA, rB: valE ← R[rB] OP R[rA]; set CC; R[rB] ← valE; PC ← PC+2
pub opq : (s : Plain) → At s 6
    → let val_e = operated (ifun s) (R s (r_a s)) (R s (r_b s)) in
    step s ≡ after s (gets s (r_b s) val_e) (operated_codes (ifun s) (R s (r_a s)) (R s (r_b s))) s.memory (sum (PC s) 2) aok
unfolding column_of
opq s h = column s 6 h

-- iaddq V, rB, which 003 does not have (02, #101): valE ← R[rB] + valC; set CC as addq does; R[rB] ← valE; PC ← PC+10
pub iaddq : (s : Plain) → At s 12
    → let val_c = M₈ s.memory (PC s + 2) in
    step s ≡ after s (gets s (r_b s) (sum (R s (r_b s)) val_c)) (operated_codes 0 val_c (R s (r_b s))) s.memory (sum (PC s) 10) aok
unfolding column_of
iaddq s h = column s 12 h

-- cmovXX rA, rB: R[rB] ← R[rA], if Cond(CC, ifun); PC ← PC+2
pub cmov_xx : (s : Plain) → At s 2
    → step s ≡ after s (cond (condition (ifun s) (CC s)) (gets s (r_b s) (R s (r_a s))) s.machine.registers) (CC s) s.memory (sum (PC s) 2) aok
unfolding column_of
cmov_xx s h = column s 2 h ∙ go (condition (ifun s) (CC s))
  where
    go : (b : Bool) → after s (gets s (cond (not b) 15 (r_b s)) (R s (r_a s))) (CC s) s.memory (sum (PC s) 2) aok
        ≡ after s (cond b (gets s (r_b s) (R s (r_a s))) s.machine.registers) (CC s) s.memory (sum (PC s) 2) aok
    go true = refl
    go false = refl

-- rrmovq rA, rB, which is cmovXX with function 0: R[rB] ← R[rA]; PC ← PC+2
pub rrmovq : (s : Plain) → At s 2 → ifun s ≡ 0 → step s ≡ after s (gets s (r_b s) (R s (r_a s))) (CC s) s.memory (sum (PC s) 2) aok
unfolding condition
rrmovq s h e = cmov_xx s h ∙ rw e

-- irmovq V, rB: R[rB] ← valC; PC ← PC+10
pub irmovq : (s : Plain) → At s 3 → step s ≡ after s (gets s (r_b s) (M₈ s.memory (PC s + 2))) (CC s) s.memory (sum (PC s) 10) aok
unfolding column_of
irmovq s h = column s 3 h

-- rmmovq rA, D(rB): valE ← R[rB] + valC; M₈[valE] ← R[rA]; PC ← PC+10
pub rmmovq : (s : Plain) → At s 4
    → let val_e = sum (R s (r_b s)) (M₈ s.memory (PC s + 2)) in
    step s ≡ accessing s val_e (after s s.machine.registers (CC s) (store s.memory val_e (R s (r_a s))) (sum (PC s) 10) aok)
unfolding column_of
rmmovq s h = column s 4 h

-- mrmovq D(rB), rA: valE ← R[rB] + valC; R[rA] ← M₈[valE]; PC ← PC+10
pub mrmovq : (s : Plain) → At s 5
    → let val_e = sum (R s (r_b s)) (M₈ s.memory (PC s + 2)) in
    step s ≡ accessing s val_e (after s (gets s (r_a s) (load s.memory val_e)) (CC s) s.memory (sum (PC s) 10) aok)
unfolding column_of
mrmovq s h = column s 5 h

-- pushq rA: valE ← R[rsp] - 8; M₈[valE] ← R[rA]; R[rsp] ← valE; PC ← PC+2
pub pushq : (s : Plain) → At s 10
    → let val_e = difference (R s rsp) 8 in
    step s ≡ accessing s val_e (after s (gets s rsp val_e) (CC s) (store s.memory val_e (R s (r_a s))) (sum (PC s) 2) aok)
unfolding column_of
pushq s h = column s 10 h

-- popq rA: valM ← M₈[R[rsp]]; R[rsp] ← R[rsp] + 8; then R[rA] ← valM; PC ← PC+2
pub popq : (s : Plain) → At s 11
    → let val_m = load s.memory (R s rsp) in
    step s ≡ accessing s (R s rsp) (after s (written (gets s rsp (sum (R s rsp) 8)) (r_a s) val_m) (CC s) s.memory (sum (PC s) 2) aok)
unfolding column_of
popq s h = column s 11 h

-- jXX Dest: PC ← Cond(CC, ifun) ? valC : PC+9
pub j_xx : (s : Plain) → At s 7
    → step s ≡ after s s.machine.registers (CC s) s.memory (cond (condition (ifun s) (CC s)) (M₈ s.memory (PC s + 1)) (sum (PC s) 9)) aok
unfolding column_of
j_xx s h = column s 7 h

-- call Dest: valE ← R[rsp] - 8; M₈[valE] ← PC+9; R[rsp] ← valE; PC ← valC
pub call : (s : Plain) → At s 8
    → let val_e = difference (R s rsp) 8 in
    step s ≡ accessing s val_e (after s (gets s rsp val_e) (CC s) (store s.memory val_e (sum (PC s) 9)) (M₈ s.memory (PC s + 1)) aok)
unfolding column_of
call s h = column s 8 h

-- ret: valM ← M₈[R[rsp]]; R[rsp] ← R[rsp] + 8; PC ← valM
pub ret : (s : Plain) → At s 9
    → let val_m = load s.memory (R s rsp) in
    step s ≡ accessing s (R s rsp) (after s (gets s rsp (sum (R s rsp) 8)) (CC s) s.memory val_m aok)
unfolding column_of
ret s h = column s 9 h

-- nop: PC ← PC+1
pub nop : (s : Plain) → At s 1 → step s ≡ after s s.machine.registers (CC s) s.memory (sum (PC s) 1) aok
unfolding column_of
nop s h = column s 1 h

-- and there is no other: whatever a running machine fetches with AOK is at one of these columns, from code 1 to the last with functions
pub some_column : (s : Plain) → is_stopped s ≡ false → (fetched s).status ≡ aok → (1 ≤ icode s) × (icode s < unknown_code) × At s (icode s)
unfolding fetched
some_column s r e =
    let code = aok_code s.memory (PC s) e in
    (code.0, code.1, (r, e, refl))

-- THE MARKED FACTS
-- "pushq rsp stores the old rsp"
pub pushq_rsp : (s : Plain) → At s 10 → r_a s ≡ rsp
    → let val_e = difference (R s rsp) 8 in
    step s ≡ accessing s val_e (after s (gets s rsp val_e) (CC s) (store s.memory val_e (R s rsp)) (sum (PC s) 2) aok)
pushq_rsp s h e = pushq s h ∙ rw e

twice : (r : Registers) (v w : ℕ) → written (written r rsp v) rsp w ≡ written r rsp w
unfolding written
twice r v w = set-set r rsp v w

-- "popq rsp leaves the word"
pub popq_rsp : (s : Plain) → At s 11 → r_a s ≡ rsp
    → step s ≡ accessing s (R s rsp) (after s (gets s rsp (load s.memory (R s rsp))) (CC s) s.memory (sum (PC s) 2) aok)
popq_rsp s h e = popq s h ∙ rw (e, twice)

-- inside memory a load gives the eight bytes, and a store puts them down
pub loaded : (m : Memory) (a : ℕ) → inside m a ≡ true → load m a ≡ M₈ m a
unfolding load
loaded m a h = rw h

pub stored : (m : Memory) (a v : ℕ) → inside m a ≡ true → store m a v ≡ holding m (placed 8 m.bytes a v)
unfolding store
stored m a v h = rw h

-- THE STOPPING INSTRUCTION
-- fetched with HLT, ADR or INS
stops_by : (s : Plain) (bad : Status) (f : Option Fault) → is_stopped s ≡ false → is_bad bad ≡ true → fetched s ≡ stopping (PC s) bad f → step s ≡ stopped s bad (blame_of s.memory (stopping (PC s) bad f))
unfolding step decoded executed accessed stopped_by access access_status execute decode loads Stages.loading stores Stages.storing row_of table stopping
stops_by s bad f r h e = rw (r, e, h)

pub stops : (s : Plain) (bad : Status) → is_stopped s ≡ false → is_bad bad ≡ true → (fetched s).status ≡ bad → step s ≡ stopped s bad (blame_of s.memory (fetched s))
unfolding fetched
stops s bad r h e =
    let f = fetch_bad s.memory (PC s) bad h e in
    stops_by s bad (fetched s).fault r h f ∙ ap (λ i. stopped s bad (blame_of s.memory i)) (sym f)

-- halt, 0x00: HLT
pub halt : (s : Plain) → is_stopped s ≡ false → PC s < code_end s.memory (PC s) → M₁ s.memory (PC s) ≡ 0 → step s ≡ stopped s hlt no_blame
unfolding fetched is_bad stopping blame_of fault_at no_blame
halt s r h e = stops_by s hlt no_fault r refl (fetch_halt s.memory (PC s) h e)

-- "Simulators that move rsp on a failed push are not followed."
pub pushq_fails : (s : Plain) → At s 10 → inside s.memory (difference (R s rsp) 8) ≡ false → step s ≡ stopped s adr no_blame
pushq_fails s h e = pushq s h ∙ rw e

-- "A step or clock on a stopped machine changes nothing, counts nothing and logs nothing."
pub stays : (s : Plain) → is_stopped s ≡ true → step s ≡ s
unfolding step
stays s h = rw h
