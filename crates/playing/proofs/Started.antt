-- The state before round 1, of a job by value: what is asked to make it, and that it holds the model's state. Assumes nothing.
use mathlib.Core.Path.{◌≡◌, refl, sym, ap, ◌∙◌}
use mathlib.Core.List.{[]}
use Prim.Native.Nat.{ℕ, ◌+◌, ◌*◌, ◌≤◌, ◌<◌}
use native.Mathlib.Omega.{arith}
use lib.ListN.{length, get_or, take, drop, length-take, length-drop}
use lib.Seq.{get_or-take}
use Rattle.bits.specs.Bits.{Below}
use Rattle.model.specs.Playing.{start}
use Rattle.model.specs.Plans.{each}
use Rattle.model.proofs.Plans.{get_d_each}
use Rattle.model.proofs.Carried.{start-long, start-load}
use Rattle.job.specs.Meaning.{carried_in, job_of, Fits}
use Rattle.job.specs.declared.Job.{Job as Stored}
use Rattle.job.proofs.Laws.{disks_are, blocks_are, refs_are, ref-at}
use Rattle.playing.specs.Playing.{carrying_buffers, read_on_from, start_buffers, Holds}
use Rattle.playing.specs.declared.Buffers.{Buffers}

module _ (c : Stored) (h : Fits c) where
  -- what `carrying` and `read_on` ask, of any disks and references of the job
  pub carrying_asks : (n : ℕ) → n ≤ c.disks → (n ≤ 8) × Below 65 c.held × (length c.carried ≡ 512) × Below 512 c.carried
  carrying_asks n l = ((let few = h.few_disks in omega (arith, few)), (λ d l. let small = h.small_held d in omega (arith, small)), h.long_carried, λ i l. h.small_carried i)

  pub reading_asks : (n : ℕ) → n ≤ c.count → (n ≤ 2048) × (length c.refs ≡ 2048) × Below 512 (take n c.refs)
  reading_asks n l = ((let few = h.few_refs in omega (arith, few)), h.long_refs, small)
    where
      small : Below 512 (take n c.refs)
      small i p =
          let cut = length-take n c.refs in
          let before : i < n = omega (arith, cut, p) in
          let refs = refs_are c h in
          let blocks = blocks_are c h in
          let few = h.few_blocks in
          let known = h.sound.to_blocks i (omega (arith, refs, before, l)) in
          let same = ref-at c h i (omega (arith, before, l)) in
          let here = get_or-take n c.refs i 0 before in
          omega (arith, known, same, here, blocks, few)

  -- and what they give
  pub started : {b : Buffers} {r : Buffers} → b ≡ carrying_buffers c.disks c.held c.carried → r ≡ read_on_from b (take c.count c.refs)
      → r ≡ start_buffers c
  unfolding start_buffers
  started e f = f ∙ ap (λ (x : Buffers). read_on_from x (take c.count c.refs)) e

  -- how many blocks are carried in on a disk
  pub counted : (d : ℕ) → d < c.disks → length (get_or (each (carried_in c.held c.carried) 0 c.disks) d []) ≡ get_or c.held d 0
  counted d l =
      let cut = length-take (get_or c.held d 0) (drop (d * 64) c.carried) in
      let left = length-drop (d * 64) c.carried in
      let long = h.long_carried in
      let small = h.small_held d in
      let few = h.few_disks in
      ap length (get_d_each (carried_in c.held c.carried) 0 c.disks d [] l ∙ ap (carried_in c.held c.carried) (let e : 0 + d ≡ d = omega arith in e))
      ∙ omega (arith, cut, left, long, small, few, l)

  pub holds-start : Holds (job_of c) (start_buffers c) (start (job_of c))
  unfolding start_buffers carrying_buffers read_on_from start job_of
  holds-start = record {
    marks = refl;
    loads = λ d l. (let e = disks_are c h in sym (start-load (job_of c) h.sound d l ∙ counted d (omega (arith, e, l))));
    read = omega arith;
    marks_long = start-long (job_of c) h.sound;
    held_long = h.long_held;
  }
