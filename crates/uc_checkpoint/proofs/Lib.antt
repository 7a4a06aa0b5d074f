mod Laid
mod Counted
mod Parted
mod Paged
mod Batched
