-- What a disk is, and what each of the three disks shows of itself.
pub mod Disk
pub mod FileDisk
pub mod FuseDisk
pub mod MemoryDisk
