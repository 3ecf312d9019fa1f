-- A job by value before round 1: what `open` lends, and that its desk and its steps are right for the state before round 1. Assumes nothing.
use mathlib.Core.Path.{◌≡◌, sym, ap, ◌∙◌, subst}
use mathlib.Core.List.{List, []}
use Prim.Native.Nat.{ℕ, suc, ◌+◌, ◌*◌, ◌≤◌, ◌<◌}
use native.Mathlib.Omega.{arith}
use lib.ListN.{length, get_or, take, drop, length-take, length-replicate}
use lib.Seq.{get_or-take, get_or-drop}
use Rattle.bits.specs.Bits.{Below}
use Rattle.job.specs.Meaning.{carried_in, job_of, Fits}
use Rattle.job.specs.declared.Job.{Job as Stored}
use Rattle.job.proofs.Laws.{disks_are, refs_are}
use Rattle.model.specs.Job.{disk_count, block_count, disk_of, ref_at, carried_on, carried_at}
use Rattle.model.specs.Playing.{start}
use Rattle.model.proofs.Plans.{get_d_each}
use Rattle.model.proofs.Carried.{start-within}
use Rattle.model.proofs.Distances.{distance_to}
use Rattle.lookup.specs.Lookup.{ref_disks}
use Rattle.lookup.specs.declared.Desk.{Desk}
use Rattle.lookup.specs.declared.Steps.{Steps}
use Rattle.lookup.proofs.Laws.{ref_disks-length}
use Rattle.lookup.proofs.Right.{Right, Forward}
use Rattle.indexing.specs.Indexing.{firsts, opened, stepped}
use Rattle.indexing.proofs.Laws.{firsts-length, firsts_at}
use Rattle.indexing.proofs.Opened.{forward_made}
use Rattle.playing.specs.Playing.{start_buffers}
use Rattle.playing.specs.declared.Buffers.{Buffers}
use Rattle.playing.proofs.Started.{holds-start}
use Rattle.moving.specs.Moving.{Ahead}
use Rattle.moving.proofs.PointerRight.{forward_ahead}
use Rattle.opening.specs.Opening.{moved_all, passed_all, carried_desk, no_desk, no_steps, start_steps, start_desk}
use Rattle.opening.proofs.Sizes.{carried_within, helds-carried}
use Rattle.opening.proofs.Opened.{right_start}

-- a first place is one of the list, or its length
firsts-small : (l : List ℕ) → Below (suc (length l)) (firsts l 512 0)
firsts-small l b i =
    let at = firsts_at l 512 0 b (let n = firsts-length l 512 0 in omega (arith, n)) in
    let to = distance_to l 0 b (omega arith) in
    omega (arith, at, to)

-- the pointers of the desk of empty buffers
first_within : (disks refs : List ℕ) → Below (suc (length refs)) (opened disks refs no_desk).look
unfolding opened
first_within disks refs =
    subst (λ (n : ℕ). Below (suc n) (firsts (ref_disks disks refs) 512 0)) (ref_disks-length disks refs) (firsts-small (ref_disks disks refs))

module _ (c : Stored) (fits : Fits c) where
  abbrev pub refs : List ℕ
  refs = take c.count c.refs

  pub refs_lent : c.count ≡ length refs
  unfolding job_of
  refs_lent = sym (refs_are c fits)

  pub refs-few : length refs ≤ 2048
  refs-few = let l = refs_lent in let a = fits.few_refs in omega (arith, l, a)

  pub refs-small : Below 512 refs
  unfolding job_of
  refs-small i l = let k = fits.sound.to_blocks i l in let few = fits.sound.few_blocks in omega (arith, k, few)

  pub disks_lent : c.disks ≡ disk_count (job_of c)
  disks_lent = sym (disks_are c fits)

  on-disk : (b : ℕ) → b < block_count (job_of c) → get_or c.disk b 0 ≡ disk_of (job_of c) b
  unfolding job_of
  on-disk b l = sym (get_or-take c.blocks c.disk b 0 (let e = length-take c.blocks c.disk in omega (arith, l, e)))

  -- the blocks carried in, where `open` has them
  carried_listed : (d i : ℕ) → d < disk_count (job_of c) → i < length (carried_on (job_of c) d) → get_or c.carried (d * 64 + i) 0 ≡ carried_at (job_of c) d i
  unfolding job_of
  carried_listed d i l p =
      let disks = disks_lent in
      let list : carried_on (job_of c) d ≡ carried_in c.held c.carried d =
      get_d_each (carried_in c.held c.carried) 0 c.disks d [] (omega (arith, disks, l)) ∙ ap (carried_in c.held c.carried) (let e : 0 + d ≡ d = omega arith in e) in
      let cut = length-take (get_or c.held d 0) (drop (d * 64) c.carried) in
      let long = ap length list in
      sym (ap (λ (x : List ℕ). get_or x i 0) list ∙ get_or-take (get_or c.held d 0) (drop (d * 64) c.carried) i 0 (omega (arith, cut, long, p))
      ∙ get_or-drop (d * 64) c.carried i 0)

  pub forward_start : Forward (job_of c) (start_steps c)
  unfolding job_of start_steps
  forward_start =
      let long = length-replicate {A = ℕ} 2048 0 in
      let few = fits.sound.few_refs in
      forward_made (job_of c) c.disk no_steps (λ i l. on-disk (ref_at (job_of c) i) (fits.sound.to_blocks i l)) (omega (arith, long, few)) (omega (arith, long, few))

  ahead_start : Ahead (length refs) (start_steps c).of_disk
  unfolding job_of
  ahead_start = forward_ahead forward_start

  -- what `move_all` and `pass_all` ask,
  pub first_looks : {first : Desk} → first ≡ opened c.disk refs no_desk → Below (suc (length refs)) first.look
  first_looks e = subst (λ (x : Desk). Below (suc (length refs)) x.look) (sym e) (first_within c.disk refs)

  pub ahead-made : {steps : Steps} → steps ≡ stepped c.disk refs no_steps → Ahead (length refs) steps.of_disk
  unfolding start_steps
  ahead-made e = subst (λ (x : Steps). Ahead (length refs) x.of_disk) (sym e) ahead_start

  pub read_within : {b : Buffers} → b ≡ start_buffers c → b.next ≤ length refs
  unfolding job_of
  read_within e =
      let read = ap (λ (x : Buffers). x.next) e ∙ (holds-start c fits).read in
      let within = start-within (job_of c) in
      omega (arith, read, within)

  -- and what `open` gives
  pub open_gives : {b : Buffers} {first moved desk : Desk} {steps : Steps} → b ≡ start_buffers c → first ≡ opened c.disk refs no_desk
      → steps ≡ stepped c.disk refs no_steps → moved ≡ moved_all refs b.resident steps c.disks (record first { held = c.carried })
      → desk ≡ passed_all refs steps b.next moved → (b ≡ start_buffers c) × (desk ≡ start_desk c) × (steps ≡ start_steps c)
  unfolding start_desk start_steps carried_desk
  open_gives {b} {first} {moved} {desk} {steps} eb ef es em ed =
      (eb, ed ∙ ap (passed_all refs steps b.next) em ∙ (λ i. carried_desk (eb i) c.carried c.disks refs (es i) (ef i)), es)

  -- The desk is right, its pointers are within the references, and its residents are the blocks carried in.
  pub desk_right : Right (job_of c) (start (job_of c)) (start_desk c)
  unfolding job_of start_desk start_steps
  desk_right =
      subst (λ (n : ℕ). Right (job_of c) (start (job_of c)) (carried_desk (start_buffers c) c.carried n refs (start_steps c) (opened c.disk refs no_desk))) (sym disks_lent)
      (right_start (job_of c) fits.sound c.disk on-disk c.carried fits.long_carried carried_listed forward_start (start_buffers c)
      (holds-start c fits).marks (holds-start c fits).read)

  pub desk_within : Below (suc (length refs)) (start_desk c).look
  unfolding start_desk start_steps
  desk_within = carried_within (start_buffers c) c.carried c.disks refs (start_steps c) (opened c.disk refs no_desk) refs-few ahead_start (first_within c.disk refs)

  pub desk-held : (start_desk c).held ≡ c.carried
  unfolding start_desk start_steps
  desk-held = helds-carried (start_buffers c) c.carried c.disks refs (start_steps c) (opened c.disk refs no_desk)
