-- What was printed and how it ended, from what was written over a file.
use Rattle.std.proofs.Common.{◌≡◌, ◌⊎◌, ℕ, List, [], ◌∷◌, true, false, Option, Some, None, Err, Result, refl, sym, ap, subst, ◌∙◌, inl, inr}
use Rattle.cb_model.specs.declared.Outcome.{Outcome}
use Rattle.cb_model.specs.declared.Outcome.TheVariants as outcome
use Rattle.cb_model.specs.declared.Side.{Side}
use Rattle.cb_model.specs.declared.Side.TheVariants as side
use Rattle.cb_model.specs.Text.{Text}
use Rattle.cb_model.specs.Commands.{Command, Check, Run, Verify, Same, Make, Nodes, file_name}
use Rattle.cb_model.specs.Refusals.{Refused, Refuses, refusal_line, usage, unbuilt}
use Rattle.cb_model.specs.Outside.{Wrote, bytes_named}
use Rattle.cb_model.specs.Faults.{Counted}
use Rattle.cb_model.specs.Output.{Loaded, IsLoaded, FileRefused, long}
use Rattle.cb_lines.specs.declared.ended.Ended.{Ended}
use Rattle.cb_lines.specs.declared.ended.Ended.TheVariants as ended
use Rattle.cb_lines.specs.declared.lines.TheConstants.{USAGE}
use Rattle.cb_lines.specs.Ends as ends
use Rattle.cb_lines.specs.Ends.{IsDecided, Finishes, EndsBy, EndTold, Writes, whole, broken, wanting, IsSaid, BeginsSaying, Tells, Refusing}
use Rattle.cb_lines.proofs.Outcomes.{no-fault}
use Rattle.cb_lines.proofs.Writing.{map-writes, map-said, finish-tells, refusal-said, Ending, by_refusal, by_fault, by_want, ending, none_counted, one_counted}
use Rattle.cb_accept.specs.declared.Accepted.{Accepted}
use Rattle.cb_accept.specs.File.{holds, IsAccepted, IsTold, IsLong}
use Rattle.cb_accept.proofs.Accepting.{some-none, accepted-loaded}
use Rattle.cb_accept.proofs.Once.{refused-not-loaded}
use Rattle.cb_run.specs.Run as run
use Rattle.cb_run.specs.Run.{IsBuilt}
use Rattle.cb_run.specs.Running.{FileRun, unbuilt_yet, asked, ProgramRun, read, input_failed, input_wanting, InputBegins, nothing_yet, begins, so_far, InputDecides}
use Rattle.cb_run.proofs.Accepted.{unbuilt-not}
use Rattle.cb_run.proofs.Outcomes.{input-side}
use Rattle.cb_commands.specs.Says.{CheckSays, VerifyOver, SameOver, MakeSays}
use Rattle.cb_commands.proofs.Outcomes.{check-facts, verify-facts, same-facts, make-facts}
use Rattle.cb_top.specs.Built as built
use Rattle.cb_top.specs.Built.{Task, Checking, Running, Comparing, Pairing, command_over, CommandSays, FileSays, Output, OutputBegins, TakesBy, bytes_or}
use Rattle.cb_top.specs.Top.{Appends, Prints, IsRun, MayStop, Ran}
use Rattle.cb_top.specs.Tasks as tasks
use Rattle.cb_top.specs.Tasks.{TaskRun, BytesRun}
use Rattle.cb_top.proofs.Outcomes.{says-outcome, tells-side, finish-side}

-- the bytes of the input where they are told, and none else
abbrev told_or : Option Text → Text
told_or None = []
told_or (Some x) = x

-- the bytes of a file where they are told, and none else
abbrev told_bytes : Option (List (Text × Text)) → Option Command → Text
told_bytes None c = []
told_bytes (Some list) c = bytes_or list (file_name c)

-- the file that a task is done over
name-of : (file : Text) (task : Task) → Some file ≡ file_name (Some (command_over file task))
name-of file Checking = refl
name-of file (Running r n) = refl
name-of file (Comparing x n) = refl
name-of file (Pairing x y n) = refl

-- ---- what is appended

-- where a whole text is written, the outcome is the one that was decided
appends-whole : (c : Option Command) (file input text : Text) (o : Outcome) → IsDecided o → Output c file input text o → Appends c file input text o
appends-whole c file input text outcome.Done h k = k
appends-whole c file input text outcome.Differs h k = k
appends-whole c file input text (outcome.Refused n) h k = k
appends-whole c file input text outcome.Stopped h k = k
appends-whole c file input text (outcome.Fault s) h k = absurd h
appends-whole c file input text outcome.Memory h k = absurd h

-- nothing is a beginning of every output
appends-nothing : (c : Option Command) (file input : Text) (o : Outcome) → (IsDecided o → ⊥) → Appends c file input [] o
appends-nothing c file input outcome.Done d = absurd (d tt)
appends-nothing c file input outcome.Differs d = absurd (d tt)
appends-nothing c file input (outcome.Refused n) d = absurd (d tt)
appends-nothing c file input outcome.Stopped d = absurd (d tt)
appends-nothing c file input (outcome.Fault side.Output) d = built.nothing_yet refl
appends-nothing c file input (outcome.Fault side.File) d = refl
appends-nothing c file input (outcome.Fault side.Input) d = refl
appends-nothing c file input outcome.Memory d = built.nothing_yet refl

-- other commands than `run` leave the input
takes-none : (c : Option Command) (file bytes : Text) (left : Option Text) → (IsRun c → ⊥) → left ≡ Some bytes → TakesBy c file bytes left
takes-none None file bytes left n e = e
takes-none (Some (Check f)) file bytes left n e = e
takes-none (Some (Run f r k)) file bytes left n e = absurd (n tt)
takes-none (Some (Verify f x k)) file bytes left n e = e
takes-none (Some (Same f x y k)) file bytes left n e = e
takes-none (Some (Make b k)) file bytes left n e = e

-- ---- how it ended

module _ (c : Option Command) {files : Option (List (Text × Text))} {told left before after : Option Text} {result : Outcome} where
  -- nothing was written, and nothing was decided
  nothing-ran : (c ≡ None → ⊥) → (IsDecided result → ⊥) → (result ≡ outcome.Fault side.Input → IsRun c) → Wrote before after [] → Ran c files told left before after result
  nothing-ran some d f w = record {
    prints = record {
      file = told_bytes files c;
      file_told = λ list p. ap (λ x. told_bytes x c) p;
      input = told_or told;
      input_told = λ bytes p. ap told_or p;
      text = [];
      appends = appends-nothing c (told_bytes files c) (told_or told) result d;
      wrote = w;
      takes = λ bytes p h. absurd (d h);
    };
    refuses = λ e. absurd (some e);
    only = λ e. absurd (d (subst IsDecided (sym e) tt));
    stopped = λ e. absurd (d (subst IsDecided (sym e) tt));
    input_of_run = f;
  }

  memory-ran : (c ≡ None → ⊥) → result ≡ outcome.Memory → Wrote before after [] → Ran c files told left before after result
  memory-ran some e w = nothing-ran some (λ d. subst IsDecided e d) (λ p. let q : outcome.Memory ≡ outcome.Fault side.Input = sym e ∙ p in absurd (cc)) w

  -- what is written of an output
  written-ran : (file input : Text) → (c ≡ None → ⊥) ⊎ (result ≡ outcome.Memory → ⊥) → ((list : List (Text × Text)) → files ≡ Some list → file ≡ bytes_or list (file_name c)) → ((bytes : Text) → told ≡ Some bytes → input ≡ bytes) →
      ((bytes : Text) → told ≡ Some bytes → TakesBy c file bytes left) → Writes (Output c file input) (OutputBegins c file input) before after result → Ran c files told left before after result
  written-ran file input some ft it tk (whole t h k) =
      let o = says-outcome c file input h.lines result h.says in
      record {
        prints = record { file = file; file_told = ft; input = input; input_told = it; text = t; appends = appends-whole c file input t result o.ends h; wrote = k; takes = λ bytes p d. tk bytes p };
        refuses = λ n. inl (o.refuses n);
        only = o.only;
        stopped = o.stops;
        input_of_run = λ e. absurd (no-fault side.Input result o.ends e);
      }
  written-ran file input some ft it tk (broken t h e k) = record {
    prints = record { file = file; file_told = ft; input = input; input_told = it; text = t; appends = subst (Appends c file input t) (sym e) h; wrote = k; takes = λ bytes p d. tk bytes p };
    refuses = λ n. inr e;
    only = λ p. absurd (let q : outcome.Fault side.Output ≡ outcome.Refused 19 = sym e ∙ p in cc);
    stopped = λ p. absurd (let q : outcome.Fault side.Output ≡ outcome.Stopped = sym e ∙ p in cc);
    input_of_run = λ p. absurd (let q : outcome.Fault side.Output ≡ outcome.Fault side.Input = sym e ∙ p in let s : side.Output ≡ side.Input = cc in cc);
  }
  written-ran file input some ft it tk (wanting t h e k) = record {
    prints = record { file = file; file_told = ft; input = input; input_told = it; text = t; appends = subst (Appends c file input t) (sym e) h; wrote = k; takes = λ bytes p d. tk bytes p };
    refuses = λ n. absurd (refuted some n e);
    only = λ p. absurd (let q : outcome.Memory ≡ outcome.Refused 19 = sym e ∙ p in cc);
    stopped = λ p. absurd (let q : outcome.Memory ≡ outcome.Stopped = sym e ∙ p in cc);
    input_of_run = λ p. absurd (let q : outcome.Memory ≡ outcome.Fault side.Input = sym e ∙ p in cc);
  }
    where
      refuted : (c ≡ None → ⊥) ⊎ (result ≡ outcome.Memory → ⊥) → c ≡ None → result ≡ outcome.Memory → ⊥
      refuted (inl f) n e = f n
      refuted (inr f) n e = f e

  -- what is written of lines that the command says
  tells-ran : {Says : List Text → Outcome → Type 0} (file input : Text) → (c ≡ None → ⊥) ⊎ (result ≡ outcome.Memory → ⊥) → ((list : List (Text × Text)) → files ≡ Some list → file ≡ bytes_or list (file_name c)) →
      ((bytes : Text) → told ≡ Some bytes → input ≡ bytes) → ((bytes : Text) → told ≡ Some bytes → TakesBy c file bytes left) → ((lines : List Text) (o : Outcome) → Says lines o → CommandSays c file input lines o) →
      Tells Says before after result → Ran c files told left before after result
  tells-ran {Says} file input some ft it tk f h = written-ran file input some ft it tk (map-writes (λ t o k. map-said f t o k) of_front h)
    where
      of_front : (t : Text) → BeginsSaying Says t → OutputBegins c file input t
      of_front t (ends.nothing_yet e) = built.nothing_yet e
      of_front t (ends.begins all o k p) = built.begins all o (map-said f all o k) p

-- words of no form, and commands that aren't built, over every file and input
fixed-ran : (c : Option Command) (files : Option (List (Text × Text))) (told before after : Option Text) (r : Refused) (result : Outcome) → (IsRun c → ⊥) → (result ≡ outcome.Memory → ⊥) →
    ((file input : Text) (lines : List Text) (o : Outcome) → Refuses r lines o → CommandSays c file input lines o) → Refusing r before after result → Ran c files told told before after result
fixed-ran c files told before after r result n m f h =
    tells-ran c (told_bytes files c) (told_or told) (inr m) (λ list p. ap (λ x. told_bytes x c) p) (λ bytes p. ap told_or p) (λ bytes p. takes-none c (told_bytes files c) bytes told n p) (f (told_bytes files c) (told_or told)) h

-- a text that is always the same takes no memory
finish-memory : {before after : Option Text} {text : Text} {wanted result : Outcome} → IsDecided wanted → Finishes before after text wanted result → result ≡ outcome.Memory → ⊥
finish-memory d (ends.all_written e w) p = subst IsDecided (sym e ∙ p) d
finish-memory d (ends.cut_off i e w) p = let q : outcome.Fault side.Output ≡ outcome.Memory = sym e ∙ p in cc

pub usage-ran : (c : Option Command) (files : Option (List (Text × Text))) (told before after : Option Text) (result : Outcome) → c ≡ None → Finishes before after USAGE.now (outcome.Refused 19) result → Ran c files told told before after result
usage-ran c files told before after result e f =
    subst (λ x. Ran x files told told before after result) (sym e)
    (fixed-ran None files told before after usage result (λ h. h) (finish-memory tt f) (λ file input lines o h. h) (finish-tells (refusal-said usage _ 19 (record { line = refl; number = refl })) f))

-- `make` reads neither file nor input
pub make-ran : (c : Option Command) (bits : ℕ) (nodes : Nodes) (files : Option (List (Text × Text))) (told before after : Option Text) (result : Outcome) → c ≡ Some (Make bits nodes) →
    Tells (MakeSays bits nodes) before after result → Ran c files told told before after result
make-ran c bits nodes files told before after result e h =
    subst (λ x. Ran x files told told before after result) (sym e)
    (tells-ran (Some (Make bits nodes)) (told_bytes files (Some (Make bits nodes))) (told_or told) (inl (λ q. some-none (Make bits nodes) q)) (λ list p. ap (λ x. told_bytes x (Some (Make bits nodes))) p) (λ b p. ap told_or p)
    (λ b p. takes-none (Some (Make bits nodes)) (told_bytes files (Some (Make bits nodes))) b told (λ k. k) p) (λ lines o k. k) h)

-- ---- over a file

file_is : (name : Text) (task : Task) (files : Option (List (Text × Text))) (file : Text) → IsTold files name file → (list : List (Text × Text)) → files ≡ Some list → file ≡ bytes_or list (file_name (Some (command_over name task)))
file_is name task files file ft list p = ft list p ∙ ap (bytes_or list) (name-of name task)

-- a file's lines are the command's
says_of : (name : Text) (task : Task) (file input : Text) (lines : List Text) (o : Outcome) → FileSays task file input lines o → CommandSays (Some (command_over name task)) file input lines o
says_of name Checking file input lines o h = h
says_of name (Running r n) file input lines o h = h
says_of name (Comparing x n) file input lines o h = h
says_of name (Pairing x y n) file input lines o h = h

-- a refused file leaves the input
takes-refused : (name : Text) (task : Task) (file bytes : Text) (left : Option Text) (r : Refused) → FileRefused file r → left ≡ Some bytes → TakesBy (Some (command_over name task)) file bytes left
takes-refused name Checking file bytes left r h e = e
takes-refused name (Running s n) file bytes left r h e = inr ((λ l i. refused-not-loaded file r h l i.loaded), e)
takes-refused name (Comparing x n) file bytes left r h e = e
takes-refused name (Pairing x y n) file bytes left r h e = e

refused-ran : (name : Text) (task : Task) {files : Option (List (Text × Text))} {told left before after : Option Text} {result : Outcome} (file : Text) (r : Refused) → IsTold files name file → FileRefused file r → left ≡ told →
    Refusing r before after result → Ran (Some (command_over name task)) files told left before after result
refused-ran name task {files} {told} {left} file r ft h e k =
    tells-ran (Some (command_over name task)) file (told_or told) (inl (λ q. some-none (command_over name task) q)) (file_is name task files file ft) (λ bytes p. ap told_or p)
    (λ bytes p. takes-refused name task file bytes left r h (e ∙ p)) (λ lines o s. says_of name task file (told_or told) lines o (built.refused r h s)) k

-- over a file that wasn't loaded
pub ended-ran : (name : Text) (task : Task) {files : Option (List (Text × Text))} {told before after : Option Text} {result : Outcome} (F : Type 0) (e : Ended) → EndsBy (IsLong files name) F e → EndTold e before after result →
    Ran (Some (command_over name task)) files told told before after result
ended-ran name task {files} {told} {before} {after} {result} F e h t = by_case (ending e h t)
  where
    by_case : Ending (IsLong files name) F before after result → Ran (Some (command_over name task)) files told told before after result
    by_case (by_refusal r l k) = refused-ran name task l.bytes r l.told (subst (FileRefused l.bytes) (sym l.is) (long l.long)) refl k
    by_case (by_fault f p w) =
        nothing-ran (Some (command_over name task)) (λ q. some-none (command_over name task) q) (λ d. subst IsDecided p d)
        (λ q. absurd (let z : outcome.Fault side.File ≡ outcome.Fault side.Input = sym p ∙ q in let s : side.File ≡ side.Input = cc in cc)) w
    by_case (by_want p w) = memory-ran (Some (command_over name task)) (λ q. some-none (command_over name task) q) p w

-- over one whose queries are run
run-ran : (name file : Text) (resolutions : ℕ) (nodes : Nodes) (l : Loaded) {files : Option (List (Text × Text))} {told left before after : Option Text} {result : Outcome} →
    IsTold files name file → IsLoaded file l → FileRun l resolutions nodes told left before after result → Ran (Some (Run name resolutions nodes)) files told left before after result
run-ran name file resolutions nodes l {files} {told} {left} {before} {after} {result} ft i (unbuilt_yet h e k) =
    tells-ran (Some (Run name resolutions nodes)) file (told_or told) (inl (λ q. some-none (Run name resolutions nodes) q)) ft (λ bytes p. ap told_or p)
    (λ bytes p. inr ((λ m b. unbuilt-not file l i h m b), e ∙ p)) (λ lines o s. built.accepted l i (run.unbuilt_yet h s)) k
run-ran name file resolutions nodes l {files} {told} {left} {before} {after} {result} ft i (asked h (read input k w)) =
    written-ran (Some (Run name resolutions nodes)) file input (inl (λ q. some-none (Run name resolutions nodes) q)) ft k.is (λ bytes p. inl (l, (is-built, k.taken bytes p)))
    (map-writes decides begun w)
  where
    is-built : IsBuilt file l
    is-built = record { loaded = i; built = h }

    decides : (t : Text) (o : Outcome) → InputDecides l resolutions nodes input t o → Output (Some (Run name resolutions nodes)) file input t o
    decides t o s = map-said (λ lines o2 q. built.accepted l i (run.asked h q)) t o s

    begun : (t : Text) → InputBegins l resolutions nodes input t → OutputBegins (Some (Run name resolutions nodes)) file input t
    begun t (nothing_yet e) = built.nothing_yet e
    begun t (begins all o s p) = built.begins all o (decides all o s) p
    begun t (so_far qs s b q) =
        built.so_far name resolutions nodes refl (record { l = l; built = is-built; qs = qs; short = s.short; reading = s.reading; accepted = b; begins = q })
run-ran name file resolutions nodes l ft i (asked h (input_failed e w)) =
    nothing-ran (Some (Run name resolutions nodes)) (λ q. some-none (Run name resolutions nodes) q) (λ x. subst IsDecided e x) (λ p. tt) w
run-ran name file resolutions nodes l ft i (asked h (input_wanting e w)) = memory-ran (Some (Run name resolutions nodes)) (λ q. some-none (Run name resolutions nodes) q) e w

task-ran : (name file : Text) (task : Task) (l : Loaded) {files : Option (List (Text × Text))} {told left before after : Option Text} {result : Outcome} →
    IsTold files name file → IsLoaded file l → TaskRun task l told left before after result → Ran (Some (command_over name task)) files told left before after result
task-ran name file Checking l {told = told} ft i h =
    tells-ran (Some (Check name)) file (told_or told) (inl (λ q. some-none (Check name) q)) ft (λ bytes p. ap told_or p) (λ bytes p. h.0 ∙ p) (λ lines o s. built.accepted l i s) h.1
task-ran name file (Running resolutions nodes) l ft i h = run-ran name file resolutions nodes l ft i h
task-ran name file (Comparing x nodes) l {told = told} ft i h =
    tells-ran (Some (Verify name x nodes)) file (told_or told) (inl (λ q. some-none (Verify name x nodes) q)) ft (λ bytes p. ap told_or p) (λ bytes p. h.0 ∙ p) (λ lines o s. built.accepted l i s) h.1
task-ran name file (Pairing x y nodes) l {told = told} ft i h =
    tells-ran (Some (Same name x y nodes)) file (told_or told) (inl (λ q. some-none (Same name x y nodes) q)) ft (λ bytes p. ap told_or p) (λ bytes p. h.0 ∙ p) (λ lines o s. built.accepted l i s) h.1

-- over any file that was loaded
pub bytes-ran : (name file : Text) (task : Task) {files : Option (List (Text × Text))} {told left before after : Option Text} {result : Outcome} → IsTold files name file → BytesRun task file told left before after result →
    Ran (Some (command_over name task)) files told left before after result
bytes-ran name file task ft (tasks.refused r h e k) = refused-ran name task file r ft h e k
bytes-ran name file task ft (tasks.accepted l i h) = task-ran name file task l ft i h
bytes-ran name file task ft (tasks.wanting e w) = memory-ran (Some (command_over name task)) (λ q. some-none (command_over name task) q) e w

-- the bytes that were accepted
pub accepted-bytes : (a : Accepted) (bytes : Text) (task : Task) {told left before after : Option Text} {result : Outcome} → a.text.now ≡ bytes → IsAccepted a → TaskRun task (holds a) told left before after result →
    BytesRun task bytes told left before after result
accepted-bytes a bytes task {told} {left} {before} {after} {result} e i h =
    subst (λ t. BytesRun task t told left before after result) e (tasks.accepted (holds a) (accepted-loaded a i) h)

-- the bytes that were refused
pub ended-bytes : (bytes : Text) (task : Task) (e : Ended) {told before after : Option Text} {result : Outcome} → EndsBy (FileRefused bytes) ⊥ e → EndTold e before after result → BytesRun task bytes told told before after result
ended-bytes bytes task e {told} {before} {after} {result} h t = by_case (ending e h t)
  where
    by_case : Ending (FileRefused bytes) ⊥ before after result → BytesRun task bytes told told before after result
    by_case (by_refusal r k w) = tasks.refused r k refl w
    by_case (by_fault b p w) = absurd b
    by_case (by_want p w) = tasks.wanting p w

-- ---- faults

refusing-side : {before after : Option Text} {result : Outcome} (r : Refused) → Refusing r before after result → (s : Side) → (s ≡ side.Output → ⊥) → result ≡ outcome.Fault s → ⊥
refusing-side r k = tells-side (λ lines o h. subst IsDecided (sym h.1) tt) k

pub check-side : (l : Loaded) {before after : Option Text} {result : Outcome} → Tells (CheckSays l) before after result → (s : Side) → (s ≡ side.Output → ⊥) → result ≡ outcome.Fault s → ⊥
check-side l k = tells-side (λ lines o h. (check-facts l lines o h).ends) k

pub verify-side : (l : Loaded) (name : Text) (nodes : Nodes) {before after : Option Text} {result : Outcome} → Tells (VerifyOver l name nodes) before after result → (s : Side) → (s ≡ side.Output → ⊥) → result ≡ outcome.Fault s → ⊥
verify-side l name nodes k = tells-side (λ lines o h. (verify-facts l name nodes lines o h).ends) k

pub same-side : (l : Loaded) (one two : Text) (nodes : Nodes) {before after : Option Text} {result : Outcome} → Tells (SameOver l one two nodes) before after result → (s : Side) → (s ≡ side.Output → ⊥) → result ≡ outcome.Fault s → ⊥
same-side l one two nodes k = tells-side (λ lines o h. (same-facts l one two nodes lines o h).ends) k

pub make-side : (bits : ℕ) (nodes : Nodes) {before after : Option Text} {result : Outcome} → Tells (MakeSays bits nodes) before after result → (s : Side) → (s ≡ side.Output → ⊥) → result ≡ outcome.Fault s → ⊥
make-side bits nodes k = tells-side (λ lines o h. (make-facts bits nodes lines o h).ends) k

run-file : {l : Loaded} {resolutions : ℕ} {nodes : Nodes} {told left before after : Option Text} {result : Outcome} → FileRun l resolutions nodes told left before after result → result ≡ outcome.Fault side.File → ⊥
run-file (unbuilt_yet h l k) e = refusing-side unbuilt k side.File (λ (p : side.File ≡ side.Output). absurd (cc)) e
run-file (asked h (read input k w)) e = input-side w side.File (λ (p : side.File ≡ side.Output). absurd (cc)) e
run-file (asked h (input_failed f w)) e = let q : outcome.Fault side.Input ≡ outcome.Fault side.File = sym f ∙ e in let s : side.Input ≡ side.File = cc in cc
run-file (asked h (input_wanting f w)) e = let q : outcome.Memory ≡ outcome.Fault side.File = sym f ∙ e in cc

-- how it ended over bytes that were loaded is no fault of the file
pub bytes-file : (task : Task) (file : Text) {told left before after : Option Text} {result : Outcome} → BytesRun task file told left before after result → result ≡ outcome.Fault side.File → ⊥
bytes-file task file (tasks.refused r h l k) e = refusing-side r k side.File (λ (p : side.File ≡ side.Output). absurd (cc)) e
bytes-file Checking file (tasks.accepted l i h) e = check-side l h.1 side.File (λ (p : side.File ≡ side.Output). absurd (cc)) e
bytes-file (Running r n) file (tasks.accepted l i h) e = run-file h e
bytes-file (Comparing x n) file (tasks.accepted l i h) e = verify-side l x n h.1 side.File (λ (p : side.File ≡ side.Output). absurd (cc)) e
bytes-file (Pairing x y n) file (tasks.accepted l i h) e = same-side l x y n h.1 side.File (λ (p : side.File ≡ side.Output). absurd (cc)) e
bytes-file task file (tasks.wanting f w) e = let q : outcome.Memory ≡ outcome.Fault side.File = sym f ∙ e in cc

-- an end by a refusal is no fault but of the output
pub end-input : (e : Ended) (before after : Option Text) (result : Outcome) → EndTold e before after result → result ≡ outcome.Fault side.Input → ⊥
end-input (ended.Refused l n) before after result t = finish-side tt t side.Input (λ (p : side.Input ≡ side.Output). absurd (cc))
end-input ended.FileFailed before after result t = λ p. let q : outcome.Fault side.File ≡ outcome.Fault side.Input = sym t.0 ∙ p in let s : side.File ≡ side.Input = cc in cc
end-input ended.Memory before after result t = λ p. let q : outcome.Memory ≡ outcome.Fault side.Input = sym t.0 ∙ p in cc

-- no answer, since the run ended
abbrev pub no_answer : (A : Type 0) → Ended → Result A Ended
no_answer A e = Err e

-- the file failed exactly where it wasn't loaded for that
pub end-file : (A : Type 0) (e : Ended) (before after : Option Text) (result : Outcome) (faults now : ℕ) → EndTold e before after result → Counted (no_answer A e ≡ no_answer A ended.FileFailed) faults now →
    Counted (result ≡ outcome.Fault side.File) faults now
end-file A (ended.Refused l n) before after result faults now t c = none_counted _ _ (finish-side tt t side.File (λ (p : side.File ≡ side.Output). absurd (cc))) (c.kept (λ p. absurd (cc)))
end-file A ended.FileFailed before after result faults now t c = one_counted _ _ t.0 (c.rose refl)
end-file A ended.Memory before after result faults now t c = none_counted _ _ (λ p. let q : outcome.Memory ≡ outcome.Fault side.File = sym t.0 ∙ p in cc) (c.kept (λ p. absurd (cc)))
